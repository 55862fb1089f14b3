use Rattle.capn_canon.proofs.theorem.Headline.{denoted_has_form}
use Rattle.capn_canon.proofs.shared.NotRefused.{not_refused}
use Rattle.capn_canon.proofs.shared.OneReading.{one_value}
use Rattle.capn_canon.proofs.shared.OneRefusal.{one_refusal}
use Rattle.capn_canon.proofs.laws.denotation.Goals as goal

pub returns-clause-form : goal.returns-clause-form
returns-clause-form c = denoted_has_form

pub returns-clause-one : goal.returns-clause-one
returns-clause-one c = one_value

pub returns-clause-answered : goal.returns-clause-answered
returns-clause-answered c = not_refused

pub returns-clause-refused : goal.returns-clause-refused
returns-clause-refused c = one_refusal
