use Rattle.std.proofs.lemmas.Result.{IfOk-weaker}
use Rattle.capn_canon.proofs.theorem.TheTheorem.{answered, equal_exactly, own_form, within_budget}
use Rattle.capn_canon.proofs.laws.theorem.Goals as goal

pub returns-clause-answered : goal.returns-clause-answered
returns-clause-answered g c form bs limits r h = answered form bs limits r h.found h.refused

pub returns-clause-equal : goal.returns-clause-equal
returns-clause-equal g c form bs limits r h =
    IfOk-weaker r _ _
    (λ x k. equal_exactly form bs limits h.are.few_words h.are.small_budget h.are.small_depth _ _ k) h.found

pub returns-clause-second : goal.returns-clause-second
returns-clause-second g c form bs limits r h =
    IfOk-weaker r _ _ (λ x k. own_form form bs limits h.are.few_words h.are.small_budget h.are.small_depth x k) h.found

pub returns-clause-within : goal.returns-clause-within
returns-clause-within g c form bs limits r h = within_budget form bs limits r h.found h.refused
