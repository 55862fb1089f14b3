use Rattle.std.proofs.Common.{ℕ, List, subst, sym, ◌∙◌}
use Rattle.capn_canon.specs.inner.Outcomes.{IsLengthTold}
use Rattle.capn_canon.proofs.length.length_by_segments.Goals as goal

pub returns-in-Some-clause-told : goal.returns-in-Some-clause-told
returns-in-Some-clause-told g c =
    subst (λ (x : List (List ℕ)). IsLengthTold x c.args.limits c.length_of.result)
    (c.space.ensures ∙ sym c.in-Some.ensures.one) c.length_of.ensures.told
