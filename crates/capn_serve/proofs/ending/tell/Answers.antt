use Rattle.capn_serve.proofs.Ways.{ended}
use Rattle.capn_serve.proofs.shared.Said.{both}
use Rattle.capn_serve.proofs.ending.tell.Goals as goal

pub returns : goal.returns
returns g c =
    ended _ _ _ _ _ _ _ c.new-line.ensures c.send.ensures.empty c.requires
    (both _ _ _ _ _ c.put.ensures (both _ _ _ _ _ c.say.ensures (both _ _ _ _ _ c.put-2.ensures c.send.ensures.sent)))
