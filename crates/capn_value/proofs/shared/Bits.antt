-- Lemmas for the cycles `cost` and `show`, `is_long`, capn_marks, capn_show and capn_text: bits as numbers, and numbers
-- as bits.
use Rattle.std.proofs.Common.{◌≡◌, ℕ, zero, suc, ◌+◌, ◌^◌, List, [], ◌∷◌, ◌++◌, Bool, true, false, map, length, refl}
use Rattle.std.proofs.Common.{sym, ap, ap₂, ◌∙◌, arith}
use Rattle.std.specs.Int.{from_bool}
use Rattle.capn_value.specs.NumberWidth.{bit, is_set}
use Rattle.capn_value.specs.Tree.{numbers}
use Rattle.capn_value.specs.Views.{length-bits}
use Rattle.capn_value.specs.InRange.{AllBelow}
use Rattle.capn_value.specs.Text.{line, named, numbers_name, one_line, digits_of, shown}

-- if `xs` has `n` bits, these bits as numbers are `n` numbers
pub bits_long : (xs : List Bool) {n : ℕ} → n ≡ length xs → n ≡ length (map from_bool xs)
bits_long xs e = e ∙ sym (length-bits xs)

-- each bit, as a number, is below 2
pub bits_below : (xs : List Bool) → AllBelow (2 ^ 1) (map from_bool xs)
bits_below [] = tt
bits_below (true ∷ xs) = (omega arith, bits_below xs)
bits_below (false ∷ xs) = (omega arith, bits_below xs)

-- if bits are turned into numbers and the numbers into bits, the bits are unchanged
pub bits_again : (xs : List Bool) → map is_set (map from_bool xs) ≡ xs
bits_again [] = refl
bits_again (true ∷ xs) = ap (λ ys. true ∷ ys) (bits_again xs)
bits_again (false ∷ xs) = ap (λ ys. false ∷ ys) (bits_again xs)

-- if numbers below 2 are turned into bits and the bits into numbers, the numbers are unchanged
pub bits_back : (xs : List ℕ) → AllBelow (2 ^ 1) xs → map from_bool (map is_set xs) ≡ xs
bits_back [] h = refl
bits_back (zero ∷ xs) h = ap (λ ys. 0 ∷ ys) (bits_back xs h.1)
bits_back (suc zero ∷ xs) h = ap (λ ys. 1 ∷ ys) (bits_back xs h.1)
bits_back (suc (suc n) ∷ xs) h = absurd (let low = h.0 in omega arith)

-- the text of a list of bits is the text of the list of their numbers
pub bits_text : (level : ℕ) (xs : List Bool) →
    line level (named (numbers_name bit) (length xs)) ++ one_line (level + 1) (length xs) (digits_of xs)
    ≡ shown level (numbers bit (map from_bool xs))
bits_text level xs =
    ap₂ (λ n ys. line level (named (numbers_name bit) n) ++ one_line (level + 1) n (digits_of ys))
    (sym (length-bits xs)) (sym (bits_again xs))
