use Rattle.capn_serve.proofs.shared.Said.{both}
use Rattle.capn_serve.proofs.skip_fault.say_after_skipped.Goals as goal

pub returns : goal.returns
returns g c = both _ _ _ _ _ c.say_skipped.ensures (both _ _ _ _ _ c.put.ensures c.say.ensures)
