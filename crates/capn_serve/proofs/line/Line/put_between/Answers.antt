use Rattle.capn_serve.proofs.shared.Said.{both}
use Rattle.capn_serve.proofs.line.Line.put_between.Goals as goal

pub returns : goal.returns
returns g c = both _ _ _ _ _ c.put.ensures (both _ _ _ _ _ c.put_number.ensures c.put-2.ensures)
