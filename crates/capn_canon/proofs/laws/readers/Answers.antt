use Rattle.std.proofs.lemmas.Result.{IfOk-weaker}
use Rattle.capn_canon.proofs.theorem.TheTheorem.{equal_exactly, own_form}
use Rattle.capn_canon.proofs.theorem.Told.{canon_is_what_is_told, equal_to_getters, forms_are_what_is_told}
use Rattle.capn_canon.proofs.theorem.Told.{tells_the_same}
use Rattle.capn_canon.proofs.laws.readers.Goals as goal

pub returns-clause-canon : goal.returns-clause-canon
returns-clause-canon g c v w fv rv fw rw = canon_is_what_is_told v w fv rv fw rw

pub returns-clause-page : goal.returns-clause-page
returns-clause-page g c = forms_are_what_is_told

pub returns-clause-equal : goal.returns-clause-equal
returns-clause-equal g c form bs limits r h =
    IfOk-weaker r _ _
    (λ x k. equal_to_getters form bs limits _
    (equal_exactly form bs limits h.are.few_words h.are.small_budget h.are.small_depth _ _ k)) h.found

pub returns-clause-alike : goal.returns-clause-alike
returns-clause-alike g c form bs limits r h =
    IfOk-weaker r _ _
    (λ x k. tells_the_same form bs limits x
    (own_form form bs limits h.are.few_words h.are.small_budget h.are.small_depth x k)) h.found
