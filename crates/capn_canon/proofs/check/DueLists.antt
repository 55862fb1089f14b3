-- Lemmas on what a pass must find at a slot whose word is the pointer to a list. The list is laid out at the next free
-- word, and its price can be paid. (For `check_numbers` and `open_pointers`.)
use Rattle.std.proofs.Common.{◌≡◌, ℕ, ◌+◌, ◌-◌, ◌*◌, ◌^◌, ◌<◌, ◌≤◌, List, [], ◌∷◌, length, drop, slice_index}
use Rattle.std.proofs.Common.{ap, sym, subst, ◌∙◌, arith}
use Rattle.capn_words.specs.Message.{IsMessage, segment_at}
use Rattle.capn_words.specs.declared.pointer.Width.{Width}
use Rattle.capn_words.specs.declared.pointer.Width.TheVariants.{Link, Rows}
use Rattle.capn_value.specs.FirstCap.{first_cap}
use Rattle.capn_target.specs.declared.target.Shape.TheVariants as shapes
use Rattle.capn_walk.specs.Accepted.{IsWithin}
use Rattle.capn_target.specs.Shapes.{IsPlain}
use Rattle.capn_target.specs.Target.{content_words, words_for}
use Rattle.capn_walk.specs.ValueAt.{IsInside}
use Rattle.capn_walk.specs.Visits.{price, places, visits_of}
use Rattle.capn_target.proofs.shared.Inside.{inside}
use Rattle.capn_layout.specs.Layout.{list_to, point}
use Rattle.capn_canon.specs.inner.Due.{DueValue, DueSlots}
use Rattle.capn_layout.specs.FirstBits.{element_bits, first_bits}
use Rattle.capn_canon.specs.inner.WordsOfLayout.{Stand}
use Rattle.capn_canon.proofs.places.Compared.{links-is, links-sound, links-passes, links-here, links-to-slots, size-is}
use Rattle.capn_canon.proofs.places.ComparedList.{list-passes, list-bits, plain-too}
use Rattle.capn_layout.proofs.shared.Copied.{part-below}
use Rattle.capn_canon.proofs.check.DueObjects.{due-price}
use Rattle.capn_canon.proofs.check.DueWords.{NamesList, list-of}
use Rattle.capn_layout.proofs.shared.FirstBits.{plain-words}
use Rattle.capn_canon.proofs.reading.LaidPointers.{list-names}
use Rattle.capn_canon.proofs.reading.OneSegment.{here}
use Rattle.capn_layout.proofs.shared.Shaped.{inside-of}

module _ (all : List ℕ) (base from to d left : ℕ) (h : DueValue all base from to d left) (small : length all ≤ 2 ^ 29)
    (order : from < to) (deep : 0 < d) (width : Width) (n : ℕ) (few : n < 2 ^ 29)
    (word : slice_index all from ≡ list_to from to width n) where
  list-fits : to ≤ length all
  list-fits = let f = h.due.fits in omega arith

  pointed : point h.value from to ≡ list_to from to width n
  pointed = sym h.due.laid.pointer ∙ word

  module _ (simple : width ≡ Rows → ⊥) where
    list-is : NamesList (all ∷ []) (here from) width n
    list-is = let f = list-fits in list-of (all ∷ []) (here from) from to order (omega arith) width n few h.value
        h.due.free h.due.sound h.due.is pointed simple

    list-lies : list-is.1 + content_words width n
        ≤ length (segment_at (all ∷ []) list-is.0)
    list-lies = (inside (all ∷ []) (here from) list-is.0 list-is.1 list-is.2 (shapes.Many width n) list-is.3).0

    list-inside : IsInside (all ∷ []) (shapes.Many width n) list-is.0 list-is.1 h.value
    list-inside = inside-of (all ∷ []) (here from) list-is.0 list-is.1 list-is.2 (shapes.Many width n) list-is.3 h.value
        h.due.is

    -- Case: a list of numbers.
    module _ (message : IsMessage (all ∷ [])) (plain : IsPlain width) where
      pub numbers-room : to + words_for (element_bits width * n) ≤ length all
      numbers-room = (list-passes all width n list-is.0 list-is.1 from to list-is.2 list-is.3 plain few small
          (part-below (all ∷ []) list-is.0 list-is.1 message) list-lies order h.value list-inside h.due.sound list-fits
          h.due.laid).1

      pub numbers-stand : Stand all to (first_bits (element_bits width * n) (drop to all))
      numbers-stand = list-bits all width n list-is.0 list-is.1 from to list-is.2 list-is.3 plain few small
          (part-below (all ∷ []) list-is.0 list-is.1 message) list-lies order h.value list-inside h.due.sound list-fits
          word numbers-room h.due.laid

      pub numbers-cheap : price base (shapes.Many width n) ≤ left
      numbers-cheap =
          let k = plain-words width n plain in
          let r = numbers-room in
          (due-price all base from to d left h to (shapes.Many width n)
          (list-names all small from to n width (plain-too width plain) order (omega arith) few word) deep).0

-- A list of `n` pointers is laid out at the next free word `to`. Its price can be paid, and the pass must find
-- values at its elements.
pub record DueLinks (all : List ℕ) (base to n d left : ℕ) : Type 0 where
  pub room : to + n ≤ length all
  pub cheap : base + n ≤ left
  pub below : DueSlots all base to n (to + n) (d - 1) (left - (base + n))

module _ (all : List ℕ) (base from to d left : ℕ) (h : DueValue all base from to d left) (small : length all ≤ 2 ^ 29)
    (order : from < to) (deep : 0 < d) (n : ℕ) (few : n < 2 ^ 29)
    (word : slice_index all from ≡ list_to from to Link n) where
  not-rows : Link ≡ Rows → ⊥
  not-rows e = cc

  abbrev names : NamesList (all ∷ []) (here from) Link n
  names = list-is all base from to d left h small order deep Link n few word not-rows

  it : IsInside (all ∷ []) (shapes.Many Link n) names.0 names.1 h.value
  it = list-inside all base from to d left h small order deep Link n few word not-rows

  fits : to ≤ length all
  fits = list-fits all base from to d left h small order deep Link n few word

  room : to + n ≤ length all
  room = (links-passes all n names.0 names.1 from to names.2 names.3 small order h.value it h.due.sound fits
      h.due.laid).1

  pub due-links : DueLinks all base to n d left
  due-links =
      let v = h.value in
      let is = links-is all n names.0 names.1 from to names.2 names.3 small order v it h.due.sound fits in
      let paid = due-price all base from to d left h to (shapes.Many Link n)
      (list-names all small from to n Link tt order room few word) deep in
      let sum = size-is all n names.0 names.1 from to names.2 names.3 small order v it h.due.sound fits in
      let f = h.due.fits in
      record {
        room = room;
        cheap = paid.0;
        below = record {
          values = is.slots;
          count = is.count;
          due = record {
            are = links-here all n names.0 names.1 from to names.2 names.3 small order v it h.due.sound fits word room;
            laid = links-to-slots all n names.0 names.1 from to names.2 names.3 small order v it h.due.sound fits word
                room h.due.laid;
            sound = (links-sound all n names.0 names.1 from to names.2 names.3 small order v it h.due.sound fits).1;
            free = sym (ap first_cap is.is) ∙ h.due.free;
            fits = omega arith;
            pays = subst (λ (k : ℕ). IsWithin (left - (base + n)) (visits_of (all ∷ []) base (d - 1) (places 0 to k)))
                (sym is.count) paid.1;
          };
        };
      }
