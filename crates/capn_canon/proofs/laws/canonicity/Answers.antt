use Rattle.capn_canon.proofs.theorem.EqualExactlySame.{equal_exactly_same}
use Rattle.capn_canon.proofs.theorem.Headline.{canonical_form}
use Rattle.capn_canon.proofs.laws.canonicity.Goals as goal

pub returns-clause-form : goal.returns-clause-form
returns-clause-form c = canonical_form

pub returns-clause-exactly : goal.returns-clause-exactly
returns-clause-exactly c v w fv rv fw rw = equal_exactly_same v w fv rv fw rw
