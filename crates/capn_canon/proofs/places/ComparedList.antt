-- A list without pointers is laid out canonically if and only if its pointer leads to the next free word, and no bit
-- is set past the end of the list. (For `DueLists`, `LaidFollows`, `NumbersInPlace` and `Stands`.)
use Rattle.std.proofs.Common.{◌≡◌, ℕ, zero, suc, ◌+◌, ◌*◌, ◌/◌, ◌%◌, ◌^◌, ◌<◌, ◌≤◌, List, [], ◌∷◌}
use Rattle.std.proofs.Common.{length, take, drop, slice_index, Ok, ap, ap₂, sym, subst, ◌∙◌, arith}
use Rattle.std.proofs.Common.{length-append, length-drop}
use Rattle.std.proofs.lemmas.List.{length-take-le}
use Rattle.capn_words.specs.Message.{segment_at}
use Rattle.capn_words.specs.declared.pointer.Width.{Width}
use Rattle.capn_words.specs.declared.pointer.Width.TheVariants.{W0, W1, W8, W16, W32, W64, Link, Rows}
use Rattle.capn_value.specs.Tree.{Tree}
use Rattle.capn_target.specs.declared.target.Target.TheVariants as targets
use Rattle.capn_target.specs.declared.target.Shape.TheVariants as shapes
use Rattle.capn_target.specs.Target.{content_words, target, words_for}
use Rattle.capn_walk.specs.ValueAt.{words_from}
use Rattle.capn_walk.specs.ValueAt.{IsInside}
use Rattle.capn_target.specs.Shapes.{IsPlain}
use Rattle.capn_layout.specs.Layout.{size, point, lay, list_to}
use Rattle.capn_layout.specs.Sound.{Sound}
use Rattle.capn_canon.proofs.reading.OneSegment as one
use Rattle.capn_canon.proofs.reading.LaidPointers.{list-names}
use Rattle.capn_layout.proofs.shared.LayLengths.{length-lay}
use Rattle.capn_layout.specs.FirstBits.{element_bits, last_bits, first_bits}
use Rattle.capn_canon.specs.inner.WordsOfLayout.{Stand, IsLaidAt}
use Rattle.capn_layout.proofs.shared.FirstBits.{list-of, plain-words}
use Rattle.capn_canon.proofs.places.Compared.{laid-room}

length-last : (r : ℕ) (ws : List ℕ) → r < 64 → length (last_bits r ws) ≡ (r + 63) / 64
length-last zero ws h = omega arith
length-last (suc r) ws h = omega arith

pub length-first : (n : ℕ) (ws : List ℕ) → (n + 63) / 64 ≤ length ws → length (first_bits n ws) ≡ (n + 63) / 64
length-first n ws h =
    let a = length-append (take (n / 64) ws) (last_bits (n % 64) (drop (n / 64) ws)) in
    let b = length-take-le (n / 64) ws (omega arith) in
    let c = length-last (n % 64) (drop (n / 64) ws) (omega arith) in
    omega arith

pub plain-too : (k : Width) → IsPlain k → one.IsPlain k
plain-too W0 h = tt
plain-too W1 h = tt
plain-too W8 h = tt
plain-too W16 h = tt
plain-too W32 h = tt
plain-too W64 h = tt
plain-too Link h = absurd h
plain-too Rows h = absurd h

module _ (all : List ℕ) (width : Width) (n s w from to pads : ℕ)
    (e : target (all ∷ []) (record { segment = 0; word = from }) ≡ Ok (targets.Content s w (shapes.Many width n) pads))
    (plain : IsPlain width) (few : n < 2 ^ 29) (small : length all ≤ 2 ^ 29) (below : (i : ℕ)
    → slice_index (words_from (all ∷ []) s w) i < 2 ^ 64)
    (inside : w + content_words width n ≤ length (segment_at (all ∷ []) s)) (order : from < to) (v : Tree)
    (i : IsInside (all ∷ []) (shapes.Many width n) s w v) (o : Sound v) (fits : to ≤ length all) where
  words-inside : words_for (element_bits width * n) ≤ length (words_from (all ∷ []) s w)
  words-inside = let d = length-drop w (segment_at (all ∷ []) s) in let k = plain-words width n plain in omega arith

  is-list : ((at : ℕ) → lay v at ≡ first_bits (element_bits width * n) (words_from (all ∷ []) s w))
      × ((from to : ℕ) → point v from to ≡ list_to from to width n)
  is-list = list-of (all ∷ []) width n s w plain below words-inside v i

  pub list-size : size v ≡ (element_bits width * n + 63) / 64
  list-size = sym (length-lay v to o) ∙ ap length (is-list.0 to)
      ∙ length-first (element_bits width * n) (words_from (all ∷ []) s w) words-inside

  pub list-passes : IsLaidAt all v from to → (slice_index all from ≡ list_to from to width n)
      × (to + (element_bits width * n + 63) / 64 ≤ length all)
  list-passes h =
      (h.pointer ∙ is-list.1 from to, (let r = laid-room all v from to o fits h in let z = list-size in omega arith))

  module _ (p : slice_index all from ≡ list_to from to width n)
      (room : to + (element_bits width * n + 63) / 64 ≤ length all) where
    named-here : target (all ∷ []) (record { segment = 0; word = from })
        ≡ Ok (targets.Content 0 to (shapes.Many width n) 0)
    named-here = let k = plain-words width n plain in
        list-names all small from to n width (plain-too width plain) order (omega arith) few p

    at-segment : s ≡ 0
    at-segment = let f = named-here in cc

    at-start : w ≡ to
    at-start = let f = named-here in cc

    content-is : lay v to ≡ first_bits (element_bits width * n) (drop to all)
    content-is = is-list.0 to
        ∙ ap₂ (λ (x y : ℕ). first_bits (element_bits width * n) (words_from (all ∷ []) x y)) at-segment at-start

    pub list-stands : Stand all to (first_bits (element_bits width * n) (drop to all)) → IsLaidAt all v from to
    list-stands h = record { pointer = p ∙ sym (is-list.1 from to); content = subst (Stand all to) (sym content-is) h }

    pub list-bits : IsLaidAt all v from to → Stand all to (first_bits (element_bits width * n) (drop to all))
    list-bits h = subst (Stand all to) content-is h.content
