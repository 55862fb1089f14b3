-- The targets of the pointers of a layout, in words that contain that layout. (For `Compared`, `ComparedList`,
-- `ComparedRows` and others.)
use Rattle.std.proofs.Common.{◌≡◌, ◌⊎◌, inl, inr, ℕ, zero, suc, ◌+◌, ◌-◌, ◌*◌, ◌/◌, ◌^◌, ◌<◌, ◌≤◌, ◌==◌, ◌&&◌, List, []}
use Rattle.std.proofs.Common.{◌∷◌, length, slice_index, Ok, pos, refl, ap, ap₂, sym, subst, ◌∙◌, arith}
use Rattle.std.proofs.lemmas.Bool.Decides.{nat_tests}
use Rattle.capn_words.specs.Pointers.{word_of}
use Rattle.capn_words.specs.declared.pointer.Pointer.TheVariants.{Node}
use Rattle.capn_words.specs.declared.pointer.Width.{Width}
use Rattle.capn_words.specs.declared.pointer.Width.TheVariants.{Rows}
use Rattle.capn_value.specs.Tree.{node, Trees, no_trees, tree, count}
use Rattle.capn_target.specs.declared.target.Target.TheVariants as targets
use Rattle.capn_target.specs.declared.target.Shape.TheVariants as shapes
use Rattle.capn_target.specs.Target.{content_words, target}
use Rattle.capn_walk.specs.ValueAt.{AreWordsAt, AreElements, words_from}
use Rattle.capn_canon.proofs.reading.Tight.{Close, TightAt, AreTight}
use Rattle.capn_layout.specs.Layout.{struct_to, list_to, packed}
use Rattle.capn_words.proofs.shared.Choices.{if-no}
use Rattle.capn_canon.proofs.reading.OneSegment.{here, names-empty, names-struct, names-list, names-rows, IsPlain}
use Rattle.capn_canon.proofs.reading.StandsIn.{Has, has-room, has-from}
use Rattle.capn_layout.proofs.shared.PackedElements.{packed-elements}
use Rattle.capn_layout.specs.Sound.{AreBelow}
use Rattle.capn_layout.proofs.shared.LayLengths.{length-packed}

module _ (all : List ℕ) (small : length all ≤ 2 ^ 29) where
  abbrev pub only : List (List ℕ)
  only = all ∷ []

  pub struct-names : (from at a b : ℕ) → from < at → at + (a + b) ≤ length all → a < 2 ^ 16 → b < 2 ^ 16
      → slice_index all from ≡ struct_to from at a b →
      (start : ℕ) × (target only (here from) ≡ Ok (targets.Content 0 start (shapes.Node a b) 0))
      × ((start ≡ at) ⊎ ((a ≡ 0) × (b ≡ 0)))
  struct-names from at zero zero lt room ha hb e = (from, names-empty all from e (omega arith), inr (refl, refl))
  struct-names from at (suc a) b lt room ha hb e =
      let s : from + 1 + (at - suc from) ≡ at = omega arith in
      let f = e ∙ ap word_of (if-no ((suc a == 0) && (b == 0)) _ _ (grind (arith, nat_tests))) in (
        at,
        names-struct all from (at - suc from) (suc a) b f (omega arith) ha hb (omega arith) (omega arith)
            ∙ ap (λ (p : ℕ). Ok (targets.Content 0 p (shapes.Node (suc a) b) 0)) s,
        inl refl,
      )
  struct-names from at zero (suc b) lt room ha hb e =
      let s : from + 1 + (at - suc from) ≡ at = omega arith in
      let f = e ∙ ap word_of (if-no ((0 == 0) && (suc b == 0)) _ _ (grind (arith, nat_tests))) in (
        at,
        names-struct all from (at - suc from) 0 (suc b) f (omega arith) ha hb (omega arith) (omega arith)
            ∙ ap (λ (p : ℕ). Ok (targets.Content 0 p (shapes.Node 0 (suc b)) 0)) s,
        inl refl,
      )

  moved-words : (start at : ℕ) (xs : List ℕ) → (start ≡ at) ⊎ (length xs ≡ 0) → AreWordsAt only 0 at xs
      → AreWordsAt only 0 start xs
  moved-words start at xs (inl e) h = subst (λ (p : ℕ). AreWordsAt only 0 p xs) (sym e) h
  moved-words start at [] (inr e) h = refl
  moved-words start at (x ∷ xs) (inr e) h = absurd (omega arith)

  moved-slots : (v w : ℕ) (ts : Trees) → (v ≡ w) ⊎ (count ts ≡ 0) → AreTight only 0 w ts → AreTight only 0 v ts
  moved-slots v w ts (inl e) h = subst (λ (p : ℕ). AreTight only 0 p ts) (sym e) h
  moved-slots v w no_trees (inr e) h = tt
  moved-slots v w (tree t ts) (inr e) h = absurd (omega arith)

  -- If the content of a struct is at the word `at`, the pointer to `at` has that struct as its value.
  pub struct-at : (from at a b : ℕ) (xs : List ℕ) (ts : Trees) → length xs ≡ a → count ts ≡ b → from < at
      → at + (a + b) ≤ length all → a < 2 ^ 16 → b < 2 ^ 16 →
      slice_index all from ≡ struct_to from at a b → AreWordsAt only 0 at xs → AreTight only 0 (at + a) ts
      → TightAt only (here from) (node xs ts)
  struct-at from at a b xs ts la lb lt room ha hb e ws ss =
      let (start, is, is_at) = struct-names from at a b lt room ha hb e in
      let one : (start ≡ at) ⊎ (length xs ≡ 0) =
      elim is_at as (λ _. (start ≡ at) ⊎ (length xs ≡ 0)) [ inl p ↦ inl p | inr q ↦ inr (la ∙ q.0) ] in
      let two : (start + length xs ≡ at + a) ⊎ (count ts ≡ 0) =
      elim is_at as (λ _. (start + length xs ≡ at + a)
      ⊎ (count ts ≡ 0)) [ inl p ↦ inl (ap₂ ◌+◌ p la) | inr q ↦ inr (lb ∙ q.1) ] in
      record {
        segment = 0;
        start = start;
        is = is ∙ ap₂ (λ (x y : ℕ). Ok (targets.Content 0 start (shapes.Node x y) 0)) (sym la) (sym lb);
        inside = (moved-words start at xs one ws, moved-slots (start + length xs) (at + a) ts two ss);
      }

  -- The target of the pointer to a list at the word `at` is that list, if it is not a list of structs.
  pub list-names : (from at c : ℕ) (k : Width) → IsPlain k → from < at → at + content_words k c ≤ length all
      → c < 2 ^ 29 →
      slice_index all from ≡ list_to from at k c
      → target only (here from) ≡ Ok (targets.Content 0 at (shapes.Many k c) 0)
  list-names from at c k p lt room hc e =
      let s : from + 1 + (at - suc from) ≡ at = omega arith in
      names-list all from (at - suc from) c k p e (omega arith) hc (omega arith)
      ∙ ap (λ (q : ℕ). Ok (targets.Content 0 q (shapes.Many k c) 0)) s

  -- If the elements `xs` are packed into the words from `at` on, the pointer to `at` leads to a list of these elements.
  pub elements-at : (from at : ℕ) (k : Width) (each width c n : ℕ) (xs : List ℕ) → IsPlain k → content_words k c ≡ n →
      0 < each → 0 < 2 ^ width → AreBelow (2 ^ width) xs → ((i : ℕ) → i < length xs → i / each < n) → from < at
      → c < 2 ^ 29 →
      slice_index all from ≡ list_to from at k c → Has all at (packed each width n xs)
      → Close only (here from) (shapes.Many k c) (λ s w. AreElements each width (words_from only s w) xs)
  elements-at from at k each width c n xs p l some base below room lt hc e has =
      let size = length-packed each width n xs in
      let long = has-room all at (packed each width n xs) has in
      record {
        segment = 0;
        start = at;
        is = list-names from at c k p lt (omega arith) hc e;
        inside = subst (λ (r : List ℕ). AreElements each width r xs)
            (sym (has-from all at (packed each width n xs) has))
            (packed-elements each width n xs has.behind some base below room);
      }

  -- The target of the pointer to a list of structs at the word `at` is that list, if its tag word is at `at`.
  pub rows-names : (from at c a b : ℕ) → from < at → at + (1 + c * (a + b)) ≤ length all → c < 2 ^ 29 → a < 2 ^ 16
      → b < 2 ^ 16 → c * (a + b) < 2 ^ 29 →
      slice_index all from ≡ list_to from at Rows (c * (a + b)) → slice_index all at ≡ word_of (Node (pos c) a b) →
      target only (here from) ≡ Ok (targets.Content 0 at (shapes.Rows c a b (c * (a + b))) 0)
  rows-names from at c a b lt room hc ha hb hd e t =
      let s : from + 1 + (at - suc from) ≡ at = omega arith in
      let u : slice_index all (from + 1 + (at - suc from)) ≡ word_of (Node (pos c) a b) = ap (slice_index all) s ∙ t in
      names-rows all from (at - suc from) c a b (c * (a + b)) e (omega arith) hd u (omega arith) ha hb (omega arith)
      (omega arith)
      ∙ ap (λ (q : ℕ). Ok (targets.Content 0 q (shapes.Rows c a b (c * (a + b))) 0)) s
