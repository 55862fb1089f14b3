-- There are at most 8 canonical bytes for each word that the walk pays, and 8 more.
use Rattle.std.proofs.Common.{ℕ, List, sym, subst, arith}
use Rattle.std.proofs.lemmas.Result.{IfOk-weaker}
use Rattle.capn_walk.specs.Accepted.{IsValueOf}
use Rattle.capn_c.proofs.Short.{surveyed_short}
use Rattle.capn_c.proofs.held_message.survey_held.Goals as goal

pub returns-clause-short : goal.returns-clause-short
returns-clause-short c =
    let m = c.in_ok-message.message in
    let l = c.args.limits in
    let same = sym c.in_ok-message.ensures.exact.0 in
    IfOk-weaker c.survey.result _ _ (λ s h v d. h v (subst (λ (x : List (List ℕ)). IsValueOf x l v) same d.value))
    (surveyed_short m l c.survey.result c.segments-segments.ensures.bounds (omega arith) (omega arith)
    c.survey.ensures.found)
