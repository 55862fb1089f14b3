-- Lemma for `and_one`: marks that are set stay set.
use Rattle.std.proofs.Common.{◌≡◌, ℕ, min, max, bit_and, bit_or, arith, ap, sym, ◌∙◌}
use Rattle.std.specs.Int.{bit_at}
use Rattle.std.proofs.lemmas.Nat.Bits.{same_from_bits, bit_at_and, bit_at_or}

min_of_more : (a m x : ℕ) → min a x ≡ x → min (max a m) x ≡ x
min_of_more a m x h = omega arith

-- if `a` has all bits of `x`, `a` with the bits of `m` added has all bits of `x` too
pub or_keeps : (a m x : ℕ) → bit_and a x ≡ x → bit_and (bit_or a m) x ≡ x
or_keeps a m x h =
    same_from_bits (bit_and (bit_or a m) x) x
    (λ i. bit_at_and (bit_or a m) x i ∙ (ap (λ n. min n (bit_at x i)) (bit_at_or a m i)
    ∙ min_of_more (bit_at a i) (bit_at m i) (bit_at x i) (sym (bit_at_and a x i) ∙ ap (λ n. bit_at n i) h)))
