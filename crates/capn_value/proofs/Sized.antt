-- Lemmas for `are_even`, `has_long_rows` and `has_wide_row`: a loop over the sizes of rows, after one more row and
-- after all rows.
use Rattle.std.proofs.Common.{◌≡◌, ℕ, ◌+◌, ◌-◌, ◌^◌, ◌<◌, ◌≤◌, List, Bool, true, false, ◌||◌, ◌&&◌, length, get_or}
use Rattle.std.proofs.Common.{drop, min, nat_lt, sym, ap, ap₂, ◌∙◌, arith}
use Rattle.std.proofs.lemmas.Bool.Decides.{nat_tests}
use Rattle.std.specs.Prelude.{◌==◌}
use Rattle.capn_value.specs.Tree.{Bodies, count, row_words}
use Rattle.capn_value.specs.TreeOf.{trees_of, rows_of}
use Rattle.capn_value.specs.Views.{count-trees_of}
use Rattle.capn_value.specs.Fits.{is_wide_body, has_wide_row, are_even}
use Rattle.capn_value.specs.declared.value.Body.{Body}
use Rattle.capn_value.proofs.Anywhere.{drop-next, drop-past}

differ : (m n : ℕ) → (m ≡ n → ⊥) → (m == n) ≡ false
differ m n h = grind (arith, nat_tests)

agree : (m n : ℕ) → m ≡ n → (m == n) ≡ true
agree m n e = grind (arith, nat_tests)

differs_first : (p q rest : Bool) → p ≡ false → (p && q && rest) ≡ false
differs_first p q rest e = ap (λ b. b && q && rest) e

differs_then : (p q rest : Bool) → p ≡ true → q ≡ false → (p && q && rest) ≡ false
differs_then p q rest e f = ap₂ (λ a b. a && b && rest) e f

agrees_both : (p q rest : Bool) → p ≡ true → q ≡ true → (p && q && rest) ≡ rest
agrees_both p q rest e f = ap₂ (λ a b. a && b && rest) e f

-- after the loop has added one more row, the capped sum of `m` and `rest` is still `all`
counted_more : (words w s n m part rest cap all : ℕ) → n ≡ min (words + w) cap → m ≡ min (n + s) cap
    → part ≡ w + s + rest → min (words + part) cap ≡ all → min (m + rest) cap ≡ all
counted_more words w s n m part rest cap all e f g so_far = omega arith

none_more : (words rest : ℕ) → rest ≡ 0 → words ≡ words + rest
none_more words rest e = omega arith

-- if `m` and `n` are equal once capped, and `most` is below `cap`, then `m` is above `most` exactly if `n` is
pub above : (m n cap most : ℕ) → most < cap → min m cap ≡ min n cap → nat_lt most m ≡ nat_lt most n
above m n cap most h e = grind (arith, nat_tests)

module _ {A : Type 0} (rows : List (Body A)) (i : ℕ) where
  module _ {all : Bool} (so_far : has_wide_row (rows_of (drop i rows)) ≡ all) where
    module _ (b : Body A) {r : Bool} (h : i < length rows) (at : b ≡ get_or rows i b)
        (e : r ≡ is_wide_body b.words (trees_of b.slots)) where
      wide_next : (r || has_wide_row (rows_of (drop (i + 1) rows))) ≡ all
      wide_next = ap (λ x. x || has_wide_row (rows_of (drop (i + 1) rows))) e
          ∙ sym (ap (λ bs. has_wide_row (rows_of bs)) (drop-next rows i b h at)) ∙ so_far

      pub wide_here : r ≡ true → true ≡ all
      wide_here q = sym (ap (λ x. x || has_wide_row (rows_of (drop (i + 1) rows))) q) ∙ wide_next

      pub wide_later : r ≡ false → has_wide_row (rows_of (drop (i + 1) rows)) ≡ all
      wide_later q = sym (ap (λ x. x || has_wide_row (rows_of (drop (i + 1) rows))) q) ∙ wide_next

    pub wide_nowhere : i ≡ length rows → false ≡ all
    wide_nowhere e = sym (ap (λ bs. has_wide_row (rows_of bs)) (drop-past rows i e)) ∙ so_far

  module _ (words slots : ℕ) {all : Bool} (so_far : are_even words slots (rows_of (drop i rows)) ≡ all) where
    module _ (b : Body A) (h : i < length rows) (at : b ≡ get_or rows i b) where
      even_next : ((length b.words == words) && (count (trees_of b.slots) == slots)
          && are_even words slots (rows_of (drop (i + 1) rows))) ≡ all
      even_next = sym (ap (λ bs. are_even words slots (rows_of bs)) (drop-next rows i b h at)) ∙ so_far

      pub words_uneven : {n : ℕ} → n ≡ length b.words → (n ≡ words → ⊥) → false ≡ all
      words_uneven {n} e d = sym (differs_first _ _ _ (differ _ _ (λ q. d (e ∙ q)))) ∙ even_next

      pub slots_uneven : {n m : ℕ} → n ≡ length b.words → m ≡ length b.slots → n ≡ words → (m ≡ slots → ⊥)
          → false ≡ all
      slots_uneven {n} {m} e f p d =
          sym (differs_then _ _ _ (agree _ _ (sym e ∙ p)) (differ _ _ (λ q. d (f ∙ sym (count-trees_of b.slots) ∙ q))))
          ∙ even_next

      pub still_even : {n m : ℕ} → n ≡ length b.words → m ≡ length b.slots → n ≡ words → m ≡ slots
          → are_even words slots (rows_of (drop (i + 1) rows)) ≡ all
      still_even {n} {m} e f p q =
          sym (agrees_both _ _ _ (agree _ _ (sym e ∙ p)) (agree _ _ (count-trees_of b.slots ∙ sym f ∙ q)))
          ∙ even_next

    pub all_even : i ≡ length rows → true ≡ all
    all_even e = sym (ap (λ bs. are_even words slots (rows_of bs)) (drop-past rows i e)) ∙ so_far

  module _ (words cap : ℕ) {all : ℕ} (so_far : min (words + row_words (rows_of (drop i rows))) cap ≡ all) where
    pub row_counted : (b : Body A) {w s n m : ℕ} → i < length rows → b ≡ get_or rows i b → w ≡ length b.words
        → s ≡ length b.slots → n ≡ min (words + w) cap → m ≡ min (n + s) cap
        → min (m + row_words (rows_of (drop (i + 1) rows))) cap ≡ all
    row_counted b {w} {s} {n} {m} h at e f p q =
        counted_more words w s n m (row_words (rows_of (drop i rows))) (row_words (rows_of (drop (i + 1) rows))) cap all
        p q
        (ap (λ bs. row_words (rows_of bs)) (drop-next rows i b h at)
        ∙ ap₂ (λ x y. x + y + row_words (rows_of (drop (i + 1) rows))) (sym e) (count-trees_of b.slots ∙ sym f)) so_far

    pub rows_counted : i ≡ length rows → min words cap ≡ all
    rows_counted e =
        ap (λ x. min x cap) (none_more words _ (ap (λ bs. row_words (rows_of bs)) (drop-past rows i e))) ∙ so_far
