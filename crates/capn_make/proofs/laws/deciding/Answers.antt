use Rattle.capn_make.proofs.Decided.{one_deciding, decided_stay, unended_is_stuck}
use Rattle.capn_make.proofs.laws.deciding.Goals as goal

pub returns-clause-one : goal.returns-clause-one
returns-clause-one c = one_deciding c.texts.ensures.apart c.texts.ensures.showable

pub returns-clause-stay : goal.returns-clause-stay
returns-clause-stay c = decided_stay c.texts.ensures.apart c.texts.ensures.showable

pub returns-clause-unended : goal.returns-clause-unended
returns-clause-unended c = unended_is_stuck c.texts.ensures.apart c.texts.ensures.showable
