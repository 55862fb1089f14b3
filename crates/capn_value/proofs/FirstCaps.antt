-- Lemmas for the cycle `first_cap`: the first capability of a list is found by a loop over its elements.
use Rattle.std.proofs.Common.{◌≡◌, ℕ, ◌+◌, ◌<◌, List, length, get_or, drop, Option, Some, None, sym, ap, ◌∙◌}
use Rattle.std.specs.Option.{option_or}
use Rattle.capn_value.specs.TreeOf.{tree_of, trees_of, rows_of}
use Rattle.capn_value.specs.FirstCap.{first_cap, first_in, first_in_rows}
use Rattle.capn_value.specs.declared.value.Value.{Value}
use Rattle.capn_value.specs.declared.value.Body.{Body}
use Rattle.capn_value.proofs.Anywhere.{drop-next, drop-past}

module _ {A : Type 0} {all : Option ℕ} where
  module _ (items : List (Value A)) (i : ℕ) (so_far : first_in (trees_of (drop i items)) ≡ all) where
    abbrev later : Option ℕ
    later = first_in (trees_of (drop (i + 1) items))

    next : (v : Value A) → i < length items → v ≡ get_or items i v → option_or (first_cap (tree_of v)) later ≡ all
    next v h at = sym (ap (λ vs. first_in (trees_of vs)) (drop-next items i v h at)) ∙ so_far

    pub cap_here : (v : Value A) (k : ℕ) → i < length items → v ≡ get_or items i v → first_cap (tree_of v) ≡ Some k
        → Some k ≡ all
    cap_here v k h at e = ap (λ o. option_or o later) (sym e) ∙ next v h at

    pub cap_later : (v : Value A) → i < length items → v ≡ get_or items i v → first_cap (tree_of v) ≡ None
        → first_in (trees_of (drop (i + 1) items)) ≡ all
    cap_later v h at e = ap (λ o. option_or o later) (sym e) ∙ next v h at

    pub cap_nowhere : i ≡ length items → None ≡ all
    cap_nowhere e = sym (ap (λ vs. first_in (trees_of vs)) (drop-past items i e)) ∙ so_far

  module _ (rows : List (Body A)) (i : ℕ) (so_far : first_in_rows (rows_of (drop i rows)) ≡ all) where
    abbrev below : Option ℕ
    below = first_in_rows (rows_of (drop (i + 1) rows))

    next_row : (b : Body A) → i < length rows → b ≡ get_or rows i b
        → option_or (first_in (trees_of b.slots)) below ≡ all
    next_row b h at = sym (ap (λ bs. first_in_rows (rows_of bs)) (drop-next rows i b h at)) ∙ so_far

    pub cap_in_row : (b : Body A) (k : ℕ) → i < length rows → b ≡ get_or rows i b → first_in (trees_of b.slots) ≡ Some k
        → Some k ≡ all
    cap_in_row b k h at e = ap (λ o. option_or o below) (sym e) ∙ next_row b h at

    pub cap_below : (b : Body A) → i < length rows → b ≡ get_or rows i b → first_in (trees_of b.slots) ≡ None →
        first_in_rows (rows_of (drop (i + 1) rows)) ≡ all
    cap_below b h at e = ap (λ o. option_or o below) (sym e) ∙ next_row b h at

    pub cap_in_no_row : i ≡ length rows → None ≡ all
    cap_in_no_row e = sym (ap (λ bs. first_in_rows (rows_of bs)) (drop-past rows i e)) ∙ so_far
