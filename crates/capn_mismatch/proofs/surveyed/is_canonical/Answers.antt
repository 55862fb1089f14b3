use Rattle.std.proofs.Common.{false, refl}
use Rattle.capn_mismatch.proofs.Mismatching.{not-so}
use Rattle.capn_mismatch.proofs.InCanonicalForm.{is-found, not-found}
use Rattle.capn_mismatch.proofs.surveyed.is_canonical.Goals as goal

pub returns-in-Some : goal.returns-in-Some
returns-in-Some g c v i =
    is-found (g.S.Space.message c.args.space.now) c.args.limits c.only_segment-bare.result c.only_segment-bare.ensures v
    i c.in-Some.found c.in-Some.ensures.found

pub returns-in-None : goal.returns-in-None
returns-in-None g c v i = (
  λ t. absurd (not-so false refl t),
  λ h. absurd (not-found (g.S.Space.message c.args.space.now) c.args.limits c.only_segment-bare.result
      c.only_segment-bare.ensures v i c.survey_canonical.result c.in-None.is c.survey_canonical.ensures.only h),
)
