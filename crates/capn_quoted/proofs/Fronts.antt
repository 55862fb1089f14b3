-- Lemmas for `covered` and `bare_run`: what is written for the first bytes, and for those after them.
use Rattle.std.proofs.Common.{◌≡◌, ℕ, zero, suc, ◌≤◌, Bool, true, false, cond, List, [], ◌∷◌, ◌++◌, length, drop}
use Rattle.std.proofs.Common.{refl, ap, arith, nat_lt}
use Rattle.capn_quoted.specs.Hidden.{is_hidden, numbered}
use Rattle.capn_quoted.specs.Escapes.{escaped, of_two, of_three, of_four, code_at, more_of, hides, escapes_after}
use Rattle.capn_quoted.specs.Escapes.{escapes, first_written, covered}

after_is : (k : ℕ) (xs : List ℕ) → escapes_after k xs ≡ escapes (drop k xs)
after_is zero xs = refl
after_is (suc k) [] = refl
after_is (suc k) (b ∷ bs) = after_is k bs

pub after_first : (b : ℕ) (bs : List ℕ)
    → escapes (b ∷ bs) ≡ first_written b bs ++ escapes (drop (covered b bs) bs)
after_first b bs = by (hides b bs) where
  by : (t : Bool)
      → cond t (numbered (code_at b bs) ++ escapes_after (more_of b) bs) (escaped b ++ escapes_after zero bs)
      ≡ cond t (numbered (code_at b bs)) (escaped b) ++ escapes (drop (cond t (more_of b) 0) bs)
  by true = ap (λ (l : List ℕ). numbered (code_at b bs) ++ l) (after_is (more_of b) bs)
  by false = refl

two_within : (b : ℕ) (bs : List ℕ) → is_hidden (of_two b bs) ≡ true → 1 ≤ length bs
two_within b [] e = absurd cc
two_within b (c ∷ cs) e = omega arith

three_within : (b : ℕ) (bs : List ℕ) → is_hidden (of_three b bs) ≡ true → 2 ≤ length bs
three_within b [] e = absurd cc
three_within b (c ∷ []) e = absurd cc
three_within b (c ∷ d ∷ ds) e = omega arith

four_within : (b : ℕ) (bs : List ℕ) → is_hidden (of_four b bs) ≡ true → 3 ≤ length bs
four_within b [] e = absurd cc
four_within b (c ∷ []) e = absurd cc
four_within b (c ∷ d ∷ []) e = absurd cc
four_within b (c ∷ d ∷ e ∷ es) f = omega arith

-- A hidden code point ends within the bytes.
pub hidden_within : (b : ℕ) (bs : List ℕ) → hides b bs ≡ true → more_of b ≤ length bs
hidden_within b bs e = by (nat_lt b 192) (nat_lt b 224) (nat_lt b 240) e where
  by : (x y z : Bool) → is_hidden (cond x 0 (cond y (of_two b bs) (cond z (of_three b bs) (of_four b bs)))) ≡ true
      → cond {A = ℕ} y 1 (cond z 2 3) ≤ length bs
  by true y z e = absurd cc
  by false true z e = two_within b bs e
  by false false true e = three_within b bs e
  by false false false e = four_within b bs e

pub covered_within : (b : ℕ) (bs : List ℕ) → covered b bs ≤ length bs
covered_within b bs = by (hides b bs) refl where
  by : (t : Bool) → hides b bs ≡ t → cond {A = ℕ} t (more_of b) 0 ≤ length bs
  by true e = hidden_within b bs e
  by false e = omega arith
