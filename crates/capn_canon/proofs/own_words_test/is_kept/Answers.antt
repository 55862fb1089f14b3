use Rattle.std.proofs.Common.{◌≡◌, ◌≢◌, ℕ, ◌+◌, ◌-◌, ◌∙◌, ap, sym, refl, slice_index, arith, IsTrue, nat_eq, not}
use Rattle.std.proofs.Common.{zero, suc}
use Rattle.std.proofs.lemmas.Bool.Decides.{nat_tests}
use Rattle.capn_layout.proofs.shared.Cut.{all-kept, last-kept}
use Rattle.capn_canon.proofs.own_words_test.is_kept.Goals as goal

pub returns-else-count-eq0-clause-same : goal.returns-else-count-eq0-clause-same
returns-else-count-eq0-clause-same g c =
    let all = c.args.space.now in
    let at = c.args.at in
    let n = c.args.count in
    let e : at + n - 1 ≡ at + (n - 1) = omega arith in
    let w : c.word_at.result ≡ slice_index all (at + (n - 1)) = c.word_at.ensures.word ∙ ap (slice_index all) e in
    told c.word_at.result _ _ (λ ne. all-kept all at n (omega arith) (λ z. ne (w ∙ z)))
    (λ z k. last-kept all at n (omega arith) k (sym w ∙ z))
  where
    told : (x k n : ℕ) → (x ≢ 0 → k ≡ n) → (x ≡ 0 → k ≡ n → ⊥)
        → (IsTrue (not (nat_eq x 0)) → k ≡ n) × (k ≡ n → IsTrue (not (nat_eq x 0)))
    told zero k n f g = ((λ t. absurd (grind (arith, nat_tests))), (λ e. absurd (g refl e)))
    told (suc x) k n f g = ((λ t. f (λ z. omega arith)), (λ e. grind (arith, nat_tests)))
