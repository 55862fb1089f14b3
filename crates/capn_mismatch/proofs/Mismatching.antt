-- The statements that a mismatch makes about its message are true. (For `finding_of`, `is_canonical` and `lengths_of`.)
use Rattle.std.proofs.Common.{◌≡◌, ◌↔◌, ℕ, List, Bool, false, Result, IfOk, subst}
use Rattle.std.proofs.lemmas.Result.{IfOk-weaker}
use Rattle.std.specs.Bool.{IsTrue}
use Rattle.capn_value.specs.Tree.{Tree}
use Rattle.capn_walk.specs.Limits.{Bounds}
use Rattle.capn_walk.specs.Accepted.{IsValueOf, root}
use Rattle.capn_walk.proofs.shared.Unique.{unique}
use Rattle.capn_canon.specs.Measure.{IsCanonicalOf}
use Rattle.capn_mismatch.specs.declared.answer.Mismatch.{Mismatch}
use Rattle.capn_mismatch.specs.declared.finding.Finding.{Finding}
use Rattle.capn_mismatch.specs.declared.answer.Mismatch.TheVariants.{Canonical, Segments, Capability, Word, After}
use Rattle.capn_mismatch.specs.Mismatches.{IsMismatch, AnswersCanonical}

pub not-so : (b : Bool) → b ≡ false → IsTrue b → ⊥
not-so b e h = absurd cc

module _ (m : List (List ℕ)) (limits : Bounds) where
  pub one-value : (v w : Tree) → IsValueOf m limits v → IsValueOf m limits w → v ≡ w
  one-value v w i j = unique m v w root i.is j.is

  pub all-canonical : (v w : Tree) → IsValueOf m limits v → IsCanonicalOf m v → IsValueOf m limits w → IsCanonicalOf m w
  all-canonical v w i c j = subst (IsCanonicalOf m) (one-value v w i j) c

  module _ {A : Type 0} where
    pub says-canonical : (d : Mismatch A) (v : Tree) → IsMismatch m limits d → IsValueOf m limits v
        → (IsCanonicalOf m v → AnswersCanonical d) → AnswersCanonical d ↔ IsCanonicalOf m v
    says-canonical Canonical v f i h =
        ((λ t. subst (IsCanonicalOf m) (one-value f.0 v f.1 i) f.2), h)
    says-canonical (Segments n) v f i h = ((λ t. absurd t), h)
    says-canonical (Capability k path) v f i h = ((λ t. absurd t), h)
    says-canonical (Word w is c whose) v f i h = ((λ t. absurd t), h)
    says-canonical (After w is) v f i h = ((λ t. absurd t), h)

    pub finds-canonical : {B : Type 0} (r : Result (Finding A) B) → IfOk r (λ f. IsMismatch m limits f.mismatch)
        → ((v : Tree) → IsValueOf m limits v → IsCanonicalOf m v → ⊥)
        → IfOk r (λ f. (v : Tree) → IsValueOf m limits v → AnswersCanonical f.mismatch ↔ IsCanonicalOf m v)
    finds-canonical r d n = IfOk-weaker r _ _ (λ f is v i. says-canonical f.mismatch v is i (λ h. absurd (n v i h))) d
