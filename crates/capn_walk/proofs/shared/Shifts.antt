-- An element of a word, found by a shift and a mask. (For `digit`.)
use Rattle.std.proofs.Common.{◌≡◌, ℕ, zero, suc, ◌+◌, ◌-◌, ◌*◌, ◌/◌, ◌%◌, ◌^◌, refl, ap, sym, ◌∙◌, arith}
use Rattle.std.specs.Int.Bits.{bit_and}
use Rattle.std.proofs.lemmas.Nat.{and_mask, pow-add}
use Rattle.std.proofs.Math.Nat.{pow-suc}
use native.Mathlib.Numerals.{unary_clauses}

pow-times : (k p : ℕ) → 2 ^ (k * p) ≡ (2 ^ k) ^ p
pow-times k zero = let e : k * 0 ≡ 0 = omega arith in rw e (simp unary_clauses refl)
pow-times k (suc p) =
    let e : k * suc p ≡ k * p + k = omega arith in
    let h = pow-times k p in
    let a = pow-add 2 (k * p) k in
    e-suc k p e ∙ a ∙ ap (λ (x : ℕ). x * 2 ^ k) h ∙ sym (pow-suc (2 ^ k) p)
  where
    e-suc : (k p : ℕ) → k * suc p ≡ k * p + k → 2 ^ (k * suc p) ≡ 2 ^ (k * p + k)
    e-suc k p e = ap (λ (x : ℕ). 2 ^ x) e

-- a shift and a mask of the word `w` give the element `p` of `k` bits
pub shifted : (k w p : ℕ) → bit_and (w / 2 ^ (k * p)) (2 ^ k - 1) ≡ w / (2 ^ k) ^ p % 2 ^ k
shifted k w p = and_mask (w / 2 ^ (k * p)) k ∙ ap (λ (x : ℕ). w / x % 2 ^ k) (pow-times k p)
