use Rattle.capn_serve.proofs.shared.Said.{both}
use Rattle.capn_archive.proofs.fault.say_uncanonical.Goals as goal

pub returns : goal.returns
returns g c =
    both _ _ _ _ _ c.put.ensures (both _ _ _ _ _ c.say_place.ensures c.put-2.ensures)
