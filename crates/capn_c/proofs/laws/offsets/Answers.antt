use Rattle.capn_c.proofs.Placed.{contained, placed}
use Rattle.capn_c.proofs.laws.offsets.Goals as goal

pub returns-clause-places : goal.returns-clause-places
returns-clause-places c = placed

pub returns-clause-contents : goal.returns-clause-contents
returns-clause-contents c = contained c.indexes.ensures.readable
