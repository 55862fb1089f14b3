-- A list of numbers is in place if the word of its pointer is `list_to`, and no bit is set past the end of the list.
-- (For `check_numbers`.)
use Rattle.std.proofs.Common.{◌≡◌, ℕ, zero, suc, ◌+◌, ◌*◌, ◌^◌, ◌<◌, ◌≤◌, List, [], ◌∷◌, length, take}
use Rattle.std.proofs.Common.{drop, slice_index, None, Ok, refl, ap, sym, arith, length-drop}
use Rattle.std.proofs.lemmas.List.{length-take-le}
use Rattle.capn_words.specs.Message.{IsMessage}
use Rattle.capn_words.specs.declared.pointer.Width.{Width}
use Rattle.capn_words.specs.declared.pointer.Width.TheVariants.{W0, W1, W8, W16, W32, W64, Link, Rows}
use Rattle.capn_value.specs.NumberWidth.{NumberWidth, bit, byte, pair, quad, oct, bits_in, per_word}
use Rattle.capn_value.specs.Tree.{Tree, voids, numbers}
use Rattle.capn_value.specs.Cost.{height}
use Rattle.capn_value.specs.FirstCap.{first_cap}
use Rattle.capn_target.specs.declared.target.Target.TheVariants as targets
use Rattle.capn_target.specs.declared.target.Shape.TheVariants as shapes
use Rattle.capn_target.specs.Target.{target, words_for, list_width}
use Rattle.capn_target.specs.Shapes.{IsPlain}
use Rattle.capn_walk.specs.ValueAt.{element, IsInside}
use Rattle.capn_walk.specs.Visits.{price}
use Rattle.capn_walk.proofs.shared.Walks.{is-inside}
use Rattle.capn_layout.specs.Layout.{size, list_to}
use Rattle.capn_layout.specs.FirstBits.{element_bits, first_bits}
use Rattle.capn_canon.specs.inner.InPlace.{IsInPlace}
use Rattle.capn_layout.specs.Sound.{Sound}
use Rattle.capn_canon.specs.inner.WordsOfLayout.{Stand}
use Rattle.capn_canon.proofs.places.ComparedList.{list-size, list-stands, plain-too}
use Rattle.capn_walk.proofs.shared.Listed.{listed, length-listed, listed-below, elements-listed}
use Rattle.capn_layout.proofs.shared.Copied.{part-below}
use Rattle.capn_layout.proofs.shared.FirstBits.{plain-words}
use Rattle.capn_canon.proofs.places.InPlace.{pays-none, pays-as, pays-object}
use Rattle.capn_canon.proofs.reading.LaidPointers.{list-names}
use Rattle.capn_canon.proofs.reading.OneSegment.{here}

-- ---- words

taken-below : (bound n : ℕ) (ws : List ℕ) → ((i : ℕ) → slice_index ws i < bound) → (i : ℕ)
    → slice_index (take n ws) i < bound
taken-below bound zero ws h i = let some = h 0 in omega arith
taken-below bound (suc n) [] h i = h i
taken-below bound (suc n) (w ∷ ws) h zero = h zero
taken-below bound (suc n) (w ∷ ws) h (suc i) = taken-below bound n ws (λ j. h (suc j)) i

-- ---- the value

-- A list of `n` numbers of the given `width` has its content at the word `to`.
pub record Numbers (all : List ℕ) (width : Width) (n to : ℕ) : Type 0 where
  pub value : Tree
  pub inside : IsInside (all ∷ []) (shapes.Many width n) 0 to value
  pub sound : Sound value
  pub free : first_cap value ≡ None
  pub high : height value ≡ 1

of-numbers : (all : List ℕ) (a : NumberWidth) (n to : ℕ) → ((i : ℕ) → slice_index (drop to all) i < 2 ^ 64)
    → n < 2 ^ 29 → to + words_for (bits_in a * n) ≤ length all → Numbers all (list_width a) n to
of-numbers all oct n to below few room =
    let ws = drop to all in
    let d = length-drop to all in
    let l : length (take n ws) ≡ n = length-take-le n ws (omega arith) in
    record {
      value = numbers oct (take n ws);
      inside = (ap (shapes.Many W64) (sym l), ap (λ (k : ℕ). take k ws) l);
      sound = (omega arith, taken-below (2 ^ 64) n ws below);
      free = refl;
      high = refl;
    }
of-numbers all a n to below few room =
    let l = length-listed (element (per_word a) (bits_in a) (drop to all)) n in
    record {
      value = numbers a (listed (element (per_word a) (bits_in a) (drop to all)) n);
      inside = (ap (shapes.Many (list_width a)) (sym l), elements-listed (per_word a) (bits_in a) (drop to all) n);
      sound = (
        omega arith,
        λ i. listed-below (element (per_word a) (bits_in a) (drop to all)) (2 ^ bits_in a) n i (omega arith)
            (λ j. omega arith),
      );
      free = refl;
      high = refl;
    }

numbers-of : (all : List ℕ) (width : Width) (n to : ℕ) → IsPlain width
    → ((i : ℕ) → slice_index (drop to all) i < 2 ^ 64) → n < 2 ^ 29
    → to + words_for (element_bits width * n) ≤ length all → Numbers all width n to
numbers-of all W0 n to plain below few room = record {
  value = voids n;
  inside = refl;
  sound = few;
  free = refl;
  high = refl;
}
numbers-of all W1 n to plain below few room = of-numbers all bit n to below few room
numbers-of all W8 n to plain below few room = of-numbers all byte n to below few room
numbers-of all W16 n to plain below few room = of-numbers all pair n to below few room
numbers-of all W32 n to plain below few room = of-numbers all quad n to below few room
numbers-of all W64 n to plain below few room = of-numbers all oct n to below few room
numbers-of all Link n to plain below few room = absurd plain
numbers-of all Rows n to plain below few room = absurd plain

-- ---- in place

module _ (all : List ℕ) (base from to d : ℕ) (width : Width) (n : ℕ) (message : IsMessage (all ∷ []))
    (small : length all ≤ 2 ^ 29) (plain : IsPlain width) (order : from < to)
    (room : to + words_for (element_bits width * n) ≤ length all) (few : n < 2 ^ 29) (deep : 0 < d)
    (word : slice_index all from ≡ list_to from to width n)
    (stand : Stand all to (first_bits (element_bits width * n) (drop to all))) where
  named : target (all ∷ []) (here from) ≡ Ok (targets.Content 0 to (shapes.Many width n) 0)
  named = let k = plain-words width n plain in
      list-names all small from to n width (plain-too width plain) order (omega arith) few word

  pub listed-numbers : Numbers all width n to
  listed-numbers =
      numbers-of all width n to plain (part-below (all ∷ []) 0 to message) few room

  abbrev pub numbers-value : Tree
  numbers-value = listed-numbers.value

  no-slots : (k : Width) → IsPlain k → Rattle.capn_walk.specs.Visits.slots 0 to (shapes.Many k n) ≡ []
  no-slots W0 h = refl
  no-slots W1 h = refl
  no-slots W8 h = refl
  no-slots W16 h = refl
  no-slots W32 h = refl
  no-slots W64 h = refl
  no-slots Link h = absurd h
  no-slots Rows h = absurd h

  content-room : to + Rattle.capn_target.specs.Target.content_words width n ≤ length all
  content-room = let k = plain-words width n plain in omega arith

  fits : to ≤ length all
  fits = omega arith

  pub numbers-in-place : IsInPlace all base from to d numbers-value (price base (shapes.Many width n)) 0
  numbers-in-place =
      let e = no-slots width plain in
      record {
        is = is-inside (all ∷ []) (here from) 0 to 0 (shapes.Many width n) listed-numbers.value named
            listed-numbers.inside;
        laid = list-stands all width n 0 to from to 0 named plain few small (part-below (all ∷ []) 0 to message)
            content-room order listed-numbers.value listed-numbers.inside listed-numbers.sound fits word room stand;
        sound = listed-numbers.sound;
        free = listed-numbers.free;
        pays = pays-as _ (price base (shapes.Many width n) + 0) (price base (shapes.Many width n)) 1 1 (omega arith)
            refl (pays-object all base from d to 0 0 (shapes.Many width n) named deep (rw e pays-none));
        few = omega arith;
      }

  pub numbers-high : height numbers-value ≡ 1
  numbers-high = listed-numbers.high

  pub numbers-end : size numbers-value ≡ words_for (element_bits width * n)
  numbers-end = list-size all width n 0 to from to 0 named plain few small (part-below (all ∷ []) 0 to message)
      content-room order listed-numbers.value listed-numbers.inside listed-numbers.sound fits

-- Case: elements of no bits. The price is the base, the words of the list, and 1 for each element.
pub price-none : (base n : ℕ) (width : Width) → width ≡ W0
    → price base (shapes.Many width n) ≡ base + words_for (element_bits width * n) + n
price-none base n W0 h = omega arith
price-none base n W1 h = absurd cc
price-none base n W8 h = absurd cc
price-none base n W16 h = absurd cc
price-none base n W32 h = absurd cc
price-none base n W64 h = absurd cc
price-none base n Link h = absurd cc
price-none base n Rows h = absurd cc

pub price-some : (base n : ℕ) (width : Width) → IsPlain width → (width ≡ W0 → ⊥)
    → price base (shapes.Many width n) ≡ base + words_for (element_bits width * n) + 0
price-some base n W0 plain h = absurd (h refl)
price-some base n W1 plain h = omega arith
price-some base n W8 plain h = omega arith
price-some base n W16 plain h = omega arith
price-some base n W32 plain h = omega arith
price-some base n W64 plain h = omega arith
price-some base n Link plain h = absurd plain
price-some base n Rows plain h = absurd plain
