-- Lemmas for `cost_and_height.rt`, `part_flaws.rt`, `sameness.rt` and others: the numbers of a list of each of the five
-- widths, in the arms of a match.
use Rattle.std.proofs.Common.{◌≡◌, ℕ, List, [], ◌∷◌, Bool, true, false, map, refl, ap, ◌∙◌}
use Rattle.std.specs.Prelude.{◌==◌}
use Rattle.std.specs.Int.{from_bool}
use Rattle.std.specs.Cmp.Lexicographic.{pointwise}
use mathlib.Core.Bool.{beq}
use Rattle.capn_value.specs.NumberWidth.{bit, byte, pair, quad, oct}
use Rattle.capn_value.specs.Tree.{numbers}
use Rattle.capn_value.specs.TreeOf.{tree_of}
use Rattle.capn_value.specs.Views.{tree_of-Bits, tree_of-Bytes, tree_of-Pairs, tree_of-Quads, tree_of-Octs}
use Rattle.capn_value.specs.declared.value.Value.{Value, Bits, Bytes, Pairs, Quads, Octs}

module _ {A : Type 0} {v : Value A} where
  pub is_bits : {xs : List Bool} → v ≡ Bits xs → tree_of v ≡ numbers bit (map from_bool xs)
  is_bits {xs} e = ap tree_of e ∙ tree_of-Bits A xs

  module _ {xs : List ℕ} where
    pub is_bytes : v ≡ Bytes xs → tree_of v ≡ numbers byte xs
    is_bytes e = ap tree_of e ∙ tree_of-Bytes A xs

    pub is_pairs : v ≡ Pairs xs → tree_of v ≡ numbers pair xs
    is_pairs e = ap tree_of e ∙ tree_of-Pairs A xs

    pub is_quads : v ≡ Quads xs → tree_of v ≡ numbers quad xs
    is_quads e = ap tree_of e ∙ tree_of-Quads A xs

    pub is_octs : v ≡ Octs xs → tree_of v ≡ numbers oct xs
    is_octs e = ap tree_of e ∙ tree_of-Octs A xs

-- two lists of bits are equal exactly if their numbers are
pub bits_pointwise : (xs ys : List Bool) → pointwise beq xs ys ≡ pointwise ◌==◌ (map from_bool xs) (map from_bool ys)
bits_pointwise [] [] = refl
bits_pointwise [] (y ∷ ys) = refl
bits_pointwise (x ∷ xs) [] = refl
bits_pointwise (true ∷ xs) (true ∷ ys) = bits_pointwise xs ys
bits_pointwise (false ∷ xs) (false ∷ ys) = bits_pointwise xs ys
bits_pointwise (true ∷ xs) (false ∷ ys) = refl
bits_pointwise (false ∷ xs) (true ∷ ys) = refl
