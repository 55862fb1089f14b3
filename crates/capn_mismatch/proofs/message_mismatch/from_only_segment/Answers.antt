use Rattle.std.proofs.Common.{◌≡◌, List, ℕ, IfOk, IfSome, subst, sym}
use Rattle.capn_walk.specs.Accepted.{paid}
use Rattle.capn_mismatch.specs.Mismatches.{HasCanonicalBytes, IsMismatch}
use Rattle.capn_mismatch.specs.inner.Made.{HasCanonicalLength}
use Rattle.capn_mismatch.proofs.message_mismatch.from_only_segment.Goals as goal

pub from_canonical-requires-clause-mismatched : goal.from_canonical-requires-clause-mismatched
from_canonical-requires-clause-mismatched g c =
    subst (λ (m : List (List ℕ)). HasCanonicalBytes m c.args.limits) c.only_segment-bare.ensures c.requires.mismatched

pub from_canonical-requires-clause-pays : goal.from_canonical-requires-clause-pays
from_canonical-requires-clause-pays g c =
    subst (λ (m : List (List ℕ)). c.args.paid ≡ paid m c.args.limits) c.only_segment-bare.ensures c.requires.pays

pub returns-clause-found : goal.returns-clause-found
returns-clause-found g c =
    subst (λ (m : List (List ℕ)). IfOk c.from_canonical.result (λ f. IsMismatch m c.args.limits f.mismatch))
    (sym c.only_segment-bare.ensures) c.from_canonical.ensures.found

pub returns-clause-made : goal.returns-clause-made
returns-clause-made g c =
    subst (λ (m : List (List ℕ)). IfOk c.from_canonical.result (λ f.
    IfSome f.length (HasCanonicalLength m c.args.limits)
    )) (sym c.only_segment-bare.ensures) c.from_canonical.ensures.made
