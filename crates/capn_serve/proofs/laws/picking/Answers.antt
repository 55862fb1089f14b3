use Rattle.capn_serve.proofs.OnePick.{one_pick}
use Rattle.capn_serve.proofs.laws.picking.Goals as goal

pub returns : goal.returns
returns c most p input t u r s h k = one_pick most p input t u r s h k
