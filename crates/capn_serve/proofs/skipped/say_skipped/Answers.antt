use Rattle.capn_serve.proofs.shared.Said.{both}
use Rattle.capn_serve.proofs.skipped.say_skipped.Goals as goal

pub returns : goal.returns
returns g c =
    both _ _ _ _ _ c.put_number.ensures
    (both _ _ _ _ _ c.put_named.ensures (both _ _ _ _ _ c.put.ensures c.say_place.ensures))
