-- Lemmas for `GroupLaws`, `LaneLemmas`, `RunLemmas` and others: a word and the bytes that a tag names in it, byte by
-- byte.
use Rattle.std.proofs.Common.{◌≡◌, ℕ, zero, suc, ◌+◌, ◌*◌, ◌/◌, ◌%◌, ◌^◌, ◌<◌, ◌⊎◌, inl, inr, List, ◌∷◌, refl, sym, ap}
use Rattle.std.proofs.Common.{◌∙◌, arith}
use Rattle.std.proofs.lemmas.Bool.Decides.{nat_tests}
use Rattle.std.proofs.lemmas.Nat.{ones_cat}
use Rattle.std.specs.Prelude.{count_ones}
use Rattle.capn_pack.specs.Packed.{named_bytes}

-- the number of set bits of `n` is the number of set bits of `n / 2` plus the lowest bit of `n`
pub ones_half : (n : ℕ) → count_ones n ≡ n % 2 + count_ones (n / 2)
unfolding lib.Count.ones
ones_half n =
    let whole : n / 2 * 2 ^ 1 + n % 2 ≡ n = omega arith in
    let last : (r : ℕ) → r < 2 → count_ones r ≡ r = λ r h. ones_below r h in
    sym (ap count_ones whole) ∙ ones_cat 1 (n / 2) (n % 2) (omega arith)
    ∙ (rw (last (n % 2) (omega arith)) (omega arith))
  where
    ones_below : (r : ℕ) → r < 2 → count_ones r ≡ r
    ones_below zero h = refl
    ones_below (suc zero) h = refl
    ones_below (suc (suc r)) h = absurd (omega arith)

-- if the lowest bit of the tag `left` is set, `left` names the byte `b`, and the bytes of `ws` that `left / 2` names
pub named_one : (left b : ℕ) (ws : List ℕ) → left % 2 ≡ 1 → named_bytes left (b ∷ ws) ≡ b ∷ named_bytes (left / 2) ws
named_one left b ws e = grind (arith, nat_tests)

-- if the lowest bit of the tag `left` is not set, `left` names only the bytes of `ws` that `left / 2` names
pub named_none : (left b : ℕ) (ws : List ℕ) → left % 2 ≡ 0 → named_bytes left (b ∷ ws) ≡ named_bytes (left / 2) ws
named_none left b ws e = grind (arith, nat_tests)

-- the number `n` is even or odd
pub parity : (n : ℕ) → (n % 2 ≡ 0) ⊎ (n % 2 ≡ 1)
parity n = bit_cases (n % 2) (omega arith)
  where
    bit_cases : (r : ℕ) → r < 2 → (r ≡ 0) ⊎ (r ≡ 1)
    bit_cases zero h = inl refl
    bit_cases (suc zero) h = inr refl
    bit_cases (suc (suc r)) h = absurd (omega arith)

-- 0 has no set bits
pub no_ones : count_ones 0 ≡ 0
unfolding lib.Count.ones
no_ones = refl
