use Rattle.std.proofs.Common.{ℕ, List, subst, sym, ◌∙◌}
use Rattle.capn_canon.specs.inner.Outcomes.{IsCanonicalised}
use Rattle.capn_canon.proofs.canonical.canonical_by_segments.Goals as goal

pub returns-in-Some-clause-told : goal.returns-in-Some-clause-told
returns-in-Some-clause-told g c =
    subst (λ (x : List (List ℕ)). IsCanonicalised x c.args.limits c.canonical_of_inner.result
    (λ a. a.bytes.items) (λ a. a.paid)) (c.space.ensures ∙ sym c.in-Some.ensures.one) c.canonical_of_inner.ensures.told
