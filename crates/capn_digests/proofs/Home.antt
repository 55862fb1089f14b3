-- Lemma for `home_of`: the remainder by a power of two is a mask.
use Rattle.std.proofs.Common.{◌≡◌, ℕ, ◌*◌, ◌-◌, ◌%◌, ◌^◌, ◌<◌, bit_and, sym, ◌∙◌, subst}
use Rattle.std.proofs.lemmas.Nat.{and_mask, one_shl}

-- if `n` is 1 shifted left by `k`, the mask `n - 1` keeps the remainder by `n`
pub masked : (t n k : ℕ) → k < 64 → 1 * 2 ^ k % 2 ^ 64 ≡ n → bit_and t (n - 1) ≡ t % n
masked t n k below is =
    subst (λ (m : ℕ). bit_and t (m - 1) ≡ t % m) (sym (one_shl k 64 below) ∙ is) (and_mask t k)
