use Rattle.capn_serve.proofs.shared.Said.{both}
use Rattle.capn_serve.proofs.line.Line.put_named.Goals as goal

pub returns : goal.returns
returns g c = both _ _ _ _ _ c.put.ensures c.put_number.ensures
