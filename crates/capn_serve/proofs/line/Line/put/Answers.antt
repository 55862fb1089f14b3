use Rattle.capn_serve.proofs.Ways.{kept_back, written}
use Rattle.capn_serve.proofs.shared.Said.{both}
use Rattle.capn_serve.proofs.line.Line.put.Goals as goal

pub returns-then-part-self : goal.returns-then-part-self
returns-then-part-self g c = rw c.hold.ensures (kept_back _ _ _ _)

pub returns-else-part-self : goal.returns-else-part-self
returns-else-part-self g c =
    both _ _ _ _ _ c.send.ensures.sent (rw c.send.ensures.empty (written _ _ _ _ _ c.write_part.ensures))
