use Rattle.capn_pack.proofs.Cuttings.{fed_reached, however_cut, new_reached}
use Rattle.capn_pack.proofs.laws.cutting.Goals as goal

pub returns-clause-cut : goal.returns-clause-cut
returns-clause-cut c = however_cut

pub returns-clause-fresh : goal.returns-clause-fresh
returns-clause-fresh c = new_reached

pub returns-clause-fed : goal.returns-clause-fed
returns-clause-fed c = fed_reached
