-- `survey_length` and `fill` get the form and the limits that the caller's numbers name.
use Rattle.std.proofs.Common.{subst, take}
use Rattle.capn_walk.specs.Limits.{Bounds}
use Rattle.capn_canon.specs.Canonicity.{IsCanonicalForm}
use Rattle.capn_c.proofs.OfMessage.{denoted}
use Rattle.capn_c.proofs.canonical_call.capn_canonical.Goals as goal

pub returns-else-is_empty-clause-canonical : goal.returns-else-is_empty-clause-canonical
returns-else-is_empty-clause-canonical c e v d =
    subst (λ (x : Bounds). IsCanonicalForm (take c.fill.new.report.length c.fill.new.out) x v) c.in-Ok.ensures.value
    (c.fill.ensures.canonical e v (denoted c.in-Some.ensures.value c.in-Ok.ensures.value d))
