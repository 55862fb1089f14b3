-- Lemmas on what a pass must find at a slot whose word is the pointer to a list of structs. The tag word and the rows
-- are laid out at the next free word, and their price can be paid. (For `open_composite`.)
use Rattle.std.proofs.Common.{◌≡◌, ℕ, ◌+◌, ◌-◌, ◌*◌, ◌^◌, ◌<◌, ◌≤◌, List, [], ◌∷◌, length, slice_index, Ok}
use Rattle.std.proofs.Common.{pos, refl, ap, sym, subst, ◌∙◌, arith}
use Rattle.capn_words.specs.Message.{segment_at}
use Rattle.capn_words.specs.Pointers.{field, word_of}
use Rattle.capn_words.specs.declared.pointer.Pointer.TheVariants.{Node}
use Rattle.capn_words.specs.declared.pointer.Width.TheVariants.{Rows}
use Rattle.capn_value.specs.Tree.{Tree, rows, Bodies, count_rows}
use Rattle.capn_value.specs.FirstCap.{first_cap}
use Rattle.capn_target.specs.declared.target.Target.TheVariants as targets
use Rattle.capn_target.specs.declared.target.Shape.TheVariants as shapes
use Rattle.capn_walk.specs.Accepted.{IsWithin}
use Rattle.capn_target.specs.Target.{target}
use Rattle.capn_walk.specs.ValueAt.{IsInside}
use Rattle.capn_walk.specs.Visits.{price, row_places, visits_of}
use Rattle.capn_target.proofs.shared.Inside.{inside}
use Rattle.capn_layout.specs.Layout.{list_to, point}
use Rattle.capn_canon.specs.inner.Due.{IsDue, DueValue, DueRows}
use Rattle.capn_layout.specs.RowWords.{kept_each}
use Rattle.capn_canon.proofs.places.ComparedRows.{rows-is, rows-sound, rows-passes, rows-here, rows-to-slots, rows-size}
use Rattle.capn_canon.proofs.places.ComparedRows.{kw, ks}
use Rattle.capn_canon.proofs.check.DueObjects.{due-price}
use Rattle.capn_canon.proofs.check.DueWords.{rows-of, same-number}
use Rattle.capn_canon.proofs.reading.LaidPointers.{rows-names}
use Rattle.capn_canon.proofs.reading.OneSegment.{here}

-- A tag word is laid out at the next free word `to`, and `n` rows of `a` words and `b` slots follow the tag word. The
-- price of the list can be paid, and the pass must find values at the slots of the rows.
pub record DueTagged (all : List ℕ) (base from to d left span : ℕ) : Type 0 where
  pub n : ℕ
  pub a : ℕ
  pub b : ℕ
  pub few : n < 2 ^ 29
  pub narrow : a < 2 ^ 16
  pub short : b < 2 ^ 16
  pub whole : span ≡ n * (a + b)
  pub word : slice_index all from ≡ list_to from to Rows (n * (a + b))
  pub words_kept : kept_each (all ∷ []) 0 (to + 1) a (a + b) n ≡ a
  pub slots_kept : kept_each (all ∷ []) 0 (to + 1 + a) b (a + b) n ≡ b
  pub room : to + (1 + n * (a + b)) ≤ length all
  pub tag : slice_index all to ≡ word_of (Node (pos n) a b)
  pub cheap : price base (shapes.Rows n a b (n * (a + b))) ≤ left
  pub below : DueRows all base a b (to + 1) n (to + 1 + n * (a + b)) (d - 1)
      (left - price base (shapes.Rows n a b (n * (a + b))))

module _ (all : List ℕ) (base from to d left span : ℕ) (h : DueValue all base from to d left)
    (small : length all ≤ 2 ^ 29) (order : from < to) (deep : 0 < d) (few : span < 2 ^ 29)
    (word : slice_index all from ≡ list_to from to Rows span) where
  fits : to ≤ length all
  fits = let f = h.due.fits in omega arith

  pointed : point h.value from to ≡ list_to from to Rows span
  pointed = sym h.due.laid.pointer ∙ word

  list : (bs : Bodies) × (h.value ≡ rows bs)
  list = let f = fits in
      rows-of (all ∷ []) (here from) from to order (omega arith) Rows span few h.value h.due.free h.due.sound pointed
      refl

  due : IsDue all base from to d left (rows list.0)
  due = subst (λ (v : Tree). IsDue all base from to d left v) list.1 h.due

  abbrev n : ℕ
  n = count_rows list.0

  abbrev a : ℕ
  a = due.is.0

  abbrev b : ℕ
  b = due.is.1

  abbrev s : ℕ
  s = due.is.3.segment

  abbrev w : ℕ
  w = due.is.3.start

  named : target (all ∷ []) (here from) ≡ Ok (targets.Content s w (shapes.Rows n a b due.is.2) due.is.3.pads)
  named = due.is.3.is

  lies : w + 1 + n * (a + b) ≤ length (segment_at (all ∷ []) s)
  lies =
      let i = inside (all ∷ []) (here from) s w due.is.3.pads (shapes.Rows n a b due.is.2) named in
      let x = i.0 in
      let y = i.1 in
      omega arith

  it : IsInside (all ∷ []) (shapes.Rows n a b due.is.2) s w (rows list.0)
  it = (a, b, due.is.2, refl, due.is.3.inside)

  passes : (kept_each (all ∷ []) s (w + 1) a (a + b) n ≡ a) × (kept_each (all ∷ []) s (w + 1 + a) b (a + b) n ≡ b)
      × (slice_index all from ≡ list_to from to Rows (n * (a + b)))
      × (to + (1 + n * (a + b)) ≤ length all) × (slice_index all to ≡ word_of (Node (pos n) a b))
  passes = rows-passes all n a b due.is.2 s w from to due.is.3.pads named small lies order (rows list.0) it due.sound
      fits due.laid

  same-span : n * (a + b) ≡ span
  same-span = let r = passes.3 in let f = fits in
      same-number from to order (omega arith) Rows Rows (n * (a + b)) span (omega arith) few (sym passes.2 ∙ word)

  narrow : a < 2 ^ 16
  narrow =
      let e = kw all n a b due.is.2 s w from to due.is.3.pads named small lies order (rows list.0) it due.sound fits
      passes.0 passes.1 passes.2 passes.3 passes.4 in
      let o = (rows-sound all n a b due.is.2 s w from to due.is.3.pads named small lies order (rows list.0) it due.sound
      fits).1 in
      omega arith

  short : b < 2 ^ 16
  short =
      let e = ks all n a b due.is.2 s w from to due.is.3.pads named small lies order (rows list.0) it due.sound fits
      passes.0 passes.1 passes.2 passes.3 passes.4 in
      let o = (rows-sound all n a b due.is.2 s w from to due.is.3.pads named small lies order (rows list.0) it due.sound
      fits).2 in
      omega arith

  here-named : target (all ∷ []) (here from) ≡ Ok (targets.Content 0 to (shapes.Rows n a b (n * (a + b))) 0)
  here-named =
      let r = passes.3 in
      rows-names all small from to n a b order passes.3 due.sound.0 narrow short (omega arith) passes.2 passes.4

  first-segment : s ≡ 0
  first-segment = let f = named in let g = here-named in cc

  first-start : w ≡ to
  first-start = let f = named in let g = here-named in cc

  words-kept : kept_each (all ∷ []) 0 (to + 1) a (a + b) n ≡ a
  words-kept = subst (λ (k : ℕ). kept_each (all ∷ []) 0 (k + 1) a (a + b) n ≡ a) first-start
      (subst (λ (k : ℕ). kept_each (all ∷ []) k (w + 1) a (a + b) n ≡ a) first-segment passes.0)

  slots-kept : kept_each (all ∷ []) 0 (to + 1 + a) b (a + b) n ≡ b
  slots-kept = subst (λ (k : ℕ). kept_each (all ∷ []) 0 (k + 1 + a) b (a + b) n ≡ b) first-start
      (subst (λ (k : ℕ). kept_each (all ∷ []) k (w + 1 + a) b (a + b) n ≡ b) first-segment passes.1)

  pub due-tagged : DueTagged all base from to d left span
  due-tagged =
      let v = rows list.0 in
      let pads = due.is.3.pads in
      let is = rows-is all n a b due.is.2 s w from to pads named small lies order v it due.sound fits in
      let paid = due-price all base from to d left h to (shapes.Rows n a b (n * (a + b))) here-named deep in
      let ends = rows-size all n a b due.is.2 s w from to pads named small lies order v it due.sound fits passes.0
      passes.1 passes.2 passes.3 passes.4 in
      let f = due.fits in
      let same = same-span in
      record {
        n = n;
        a = a;
        b = b;
        few = due.sound.0;
        narrow = narrow;
        short = short;
        whole = omega arith;
        word = passes.2;
        words_kept = words-kept;
        slots_kept = slots-kept;
        room = passes.3;
        tag = passes.4;
        cheap = paid.0;
        below = record {
          values = is.bodies;
          count = is.count;
          due = record {
            are = rows-here all n a b due.is.2 s w from to pads named small lies order v it due.sound fits passes.0
                passes.1 passes.2 passes.3 passes.4;
            laid = rows-to-slots all n a b due.is.2 s w from to pads named small lies order v it due.sound fits passes.0
                passes.1 passes.2 passes.3 passes.4 due.laid;
            sound = (rows-sound all n a b due.is.2 s w from to pads named small lies order v it due.sound fits).5;
            free = sym (ap first_cap is.is) ∙ due.free;
            fits = omega arith;
            pays = subst (λ (k : ℕ). IsWithin (left - price base (shapes.Rows n a b (n * (a + b))))
                (visits_of (all ∷ []) base (d - 1) (row_places 0 (to + 1) a b k))) (sym is.count) paid.1;
          };
        };
      }

pub tag-fields : (x n a b : ℕ) → n < 2 ^ 29 → a < 2 ^ 16 → b < 2 ^ 16 → x ≡ word_of (Node (pos n) a b)
    → (field 2 30 x ≡ n) × (field 32 16 x ≡ a) × (field 48 16 x ≡ b)
tag-fields x n a b hn ha hb e = (omega arith, omega arith, omega arith)
