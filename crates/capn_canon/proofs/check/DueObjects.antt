-- Lemmas on what a pass must find at a slot whose word points to an object. The object is laid out at the next free
-- word, and its price can be paid. (For the cycle `pass` and `open_struct`.)
use Rattle.std.proofs.Common.{◌≡◌, ◌≢◌, inl, inr, ℕ, ◌+◌, ◌-◌, ◌*◌, ◌%◌, ◌^◌, ◌<◌, ◌≤◌, List, []}
use Rattle.std.proofs.Common.{◌∷◌, length, take, drop, slice_index, Ok, refl, ap, sym, subst, ◌∙◌, arith}
use Rattle.capn_words.specs.Message.{segment_at}
use Rattle.capn_words.specs.Pointers.{field}
use Rattle.capn_value.specs.Tree.{Tree, nil, node, Trees, count}
use Rattle.capn_value.specs.FirstCap.{first_cap}
use Rattle.capn_value.specs.Trim.{kept_words}
use Rattle.capn_target.specs.declared.target.Target.TheVariants as targets
use Rattle.capn_target.specs.declared.target.Shape.{Shape}
use Rattle.capn_target.specs.declared.target.Shape.TheVariants as shapes
use Rattle.capn_walk.specs.Accepted.{AllPay, IsWithin}
use Rattle.capn_target.specs.Target.{target}
use Rattle.capn_walk.specs.ValueAt.{IsInside, words_from}
use Rattle.capn_walk.specs.Visits.{Visit, price, places, slots, visits_of}
use Rattle.capn_target.proofs.shared.Inside.{inside}
use Rattle.capn_walk.proofs.shared.Walks.{visits-deep, visits-object}
use Rattle.capn_layout.specs.Layout.{struct_to, point}
use Rattle.capn_canon.specs.inner.Due.{IsDue, DueValue, DueSlots}
use Rattle.capn_canon.proofs.places.Compared.{struct-is, struct-sound, struct-passes, slots-here, struct-to-slots}
use Rattle.capn_canon.proofs.places.Compared.{struct-size}
use Rattle.capn_canon.proofs.check.DueWords.{IsNear, near-word, struct-of, struct-some, struct-fields}
use Rattle.capn_canon.proofs.check.DueWords.{content-of, point-nil}
use Rattle.capn_canon.proofs.reading.LaidPointers.{struct-names}
use Rattle.capn_canon.proofs.reading.OneSegment.{here}

module _ (all : List ℕ) (base from to d left : ℕ) (h : DueValue all base from to d left) where
  abbrev only : List (List ℕ)
  only = all ∷ []

  not-nil : slice_index all from ≢ 0 → h.value ≡ nil → ⊥
  not-nil ne e = ne (h.due.laid.pointer ∙ point-nil h.value from to e)

  pub due-deep : slice_index all from ≢ 0 → d ≡ 0 → ⊥
  due-deep ne z =
      let c = content-of only (here from) h.value h.due.is h.due.free (not-nil ne) in
      subst (λ (vs : List Visit). AllPay vs) (visits-deep only base (here from) c.0 c.1 c.2 c.3 c.4 d z) h.due.pays.all

  -- If the word of the slot is not null, it points to an empty struct, or to a struct or a list at the next free word.
  pub due-near : from < to → to ≤ 2 ^ 29 → slice_index all from ≢ 0 → IsNear (slice_index all from) (to - from - 1)
  due-near order room ne =
      let e = h.due.laid.pointer in
      subst (λ (x : ℕ). IsNear x (to - from - 1)) (sym e)
      (near-word from to order room h.value h.due.free (λ z. ne (e ∙ z)))

  -- The price of the object is at most `left`. The visits of the object's slots pay at most `left` less that price.
  pub due-price : (start : ℕ) (shape : Shape) → target only (here from) ≡ Ok (targets.Content 0 start shape 0) → 0 < d
      → (price base shape ≤ left)
      × IsWithin (left - price base shape) (visits_of only base (d - 1) (slots 0 start shape))
  due-price start shape e deep =
      let w = subst (λ (vs : List Visit). IsWithin left vs)
      (visits-object only base (here from) 0 start 0 shape e d deep) h.due.pays in
      let p = w.paid in
      (omega arith, record { all = w.all; paid = omega arith })

-- ---- a struct

-- A struct of `a` words and `b` slots is laid out at the next free word `to`. Its price can be paid, and the pass
-- must find values at its slots.
pub record DueStruct (all : List ℕ) (base from to d left : ℕ) : Type 0 where
  pub a : ℕ
  pub b : ℕ
  pub narrow : a < 2 ^ 16
  pub short : b < 2 ^ 16
  pub some : 0 < a + b
  pub word : slice_index all from ≡ struct_to from to a b
  pub room : to + (a + b) ≤ length all
  pub words_kept : kept_words (take a (drop to all)) ≡ a
  pub slots_kept : kept_words (take b (drop (to + a) all)) ≡ b
  pub cheap : base + a + b ≤ left
  pub below : DueSlots all base (to + a) b (to + a + b) (d - 1) (left - (base + a + b))

module _ (all : List ℕ) (base from to d left : ℕ) (h : DueValue all base from to d left) (small : length all ≤ 2 ^ 29)
    (order : from < to) (deep : 0 < d) (ne : slice_index all from ≢ 0)
    (near : slice_index all from % 2 ^ 32 ≡ 4 * (to - from - 1)) where
  fits : to ≤ length all
  fits = let f = h.due.fits in omega arith

  low : point h.value from to % 2 ^ 32 ≡ 4 * (to - from - 1)
  low = ap (λ (x : ℕ). x % 2 ^ 32) (sym h.due.laid.pointer) ∙ near

  struct : (ws : List ℕ) × (ss : Trees) × (h.value ≡ node ws ss)
  struct = let l = low in struct-of from to order (omega arith) h.value h.due.free
      (λ z. ne (h.due.laid.pointer ∙ z)) (omega arith)

  due : IsDue all base from to d left (node struct.0 struct.1)
  due = subst (λ (v : Tree). IsDue all base from to d left v) struct.2 h.due

  abbrev a : ℕ
  a = length struct.0

  abbrev b : ℕ
  b = count struct.1

  named : target (all ∷ []) (here from) ≡ Ok (targets.Content due.is.segment due.is.start (shapes.Node a b) due.is.pads)
  named = due.is.is

  lies : due.is.start + (a + b) ≤ length (segment_at (all ∷ []) due.is.segment)
  lies = (inside (all ∷ []) (here from) due.is.segment due.is.start due.is.pads (shapes.Node a b) due.is.is).0

  it : IsInside (all ∷ []) (shapes.Node a b) due.is.segment due.is.start (node struct.0 struct.1)
  it = (refl, due.is.inside.0, due.is.inside.1)

  passes : (kept_words (take a (words_from (all ∷ []) due.is.segment due.is.start)) ≡ a)
      × (kept_words (take b (words_from (all ∷ []) due.is.segment (due.is.start + a)))
      ≡ b)
      × (slice_index all from ≡ struct_to from to a b) × (to + (a + b) ≤ length all)
  passes = struct-passes all a b due.is.segment due.is.start from to due.is.pads due.is.is small lies order
      (node struct.0 struct.1) it due.sound fits due.laid

  some : 0 < a + b
  some = struct-some from to order (omega (arith, fits)) a b
      (ap (λ (x : ℕ). x % 2 ^ 32) (sym passes.2) ∙ near)

  here-named : target (all ∷ []) (here from) ≡ Ok (targets.Content 0 to (shapes.Node a b) 0)
  here-named =
      let f = struct-names all small from to a b order passes.3 due.sound.0 due.sound.1 passes.2 in
      let e : f.0 ≡ to = elim f.2 as (λ _. f.0 ≡ to) [
        | inl x ↦ x
        | inr y ↦ let u = y.0 in let v = y.1 in let s = some in
            absurd (omega arith)
      ] in
      f.1 ∙ ap (λ (x : ℕ). Ok (targets.Content 0 x (shapes.Node a b) 0)) e

  first-segment : due.is.segment ≡ 0
  first-segment = let f = named in let g = here-named in cc

  first-start : due.is.start ≡ to
  first-start = let f = named in let g = here-named in cc

  own-kept : kept_words (take a (drop to all)) ≡ a
  own-kept =
      subst (λ (w : ℕ). kept_words (take a (drop w all)) ≡ a) first-start
      (subst (λ (s : ℕ). kept_words (take a (drop due.is.start (segment_at (all ∷ []) s))) ≡ a) first-segment passes.0)

  below-kept : kept_words (take b (drop (to + a) all)) ≡ b
  below-kept =
      subst (λ (w : ℕ). kept_words (take b (drop (w + a) all)) ≡ b) first-start
      (subst (λ (s : ℕ). kept_words (take b (drop (due.is.start + a) (segment_at (all ∷ []) s))) ≡ b) first-segment
      passes.1)

  pub due-struct : DueStruct all base from to d left
  due-struct =
      let v = node struct.0 struct.1 in
      let x = due.is in
      let is = struct-is all a b x.segment x.start from to x.pads x.is small lies order v it due.sound fits in
      let paid = due-price all base from to d left h to (shapes.Node a b) here-named deep in
      let ends = struct-size all a b x.segment x.start from to x.pads x.is small lies order v it due.sound fits passes.0
      passes.1 passes.2 passes.3 in
      let f = due.fits in
      record {
        a = a;
        b = b;
        narrow = due.sound.0;
        short = due.sound.1;
        some = some;
        word = passes.2;
        room = passes.3;
        words_kept = own-kept;
        slots_kept = below-kept;
        cheap = paid.0;
        below = record {
          values = is.slots;
          count = is.count;
          due = record {
            are = slots-here all a b x.segment x.start from to x.pads x.is small lies order v it due.sound fits passes.0
                passes.1 passes.2 passes.3;
            laid = struct-to-slots all a b x.segment x.start from to x.pads x.is small lies order v it due.sound fits
                passes.0 passes.1 passes.2 passes.3 due.laid;
            sound = (struct-sound all a b x.segment x.start from to x.pads x.is small lies order v it due.sound fits).2;
            free = sym (ap first_cap is.is) ∙ due.free;
            fits = omega arith;
            pays = subst (λ (k : ℕ). IsWithin (left - (base + a + b))
                (visits_of (all ∷ []) base (d - 1) (places 0 (to + a) k))) (sym is.count) paid.1;
          };
        };
      }

-- The fields of the pointer `x` are the sizes of the struct `k`.
pub struct-tag : (all : List ℕ) (base from to d left x a b : ℕ) (k : DueStruct all base from to d left) → from < to
    → to ≤ 2 ^ 29 → x ≡ slice_index all from → a ≡ field 32 16 x → b ≡ field 48 16 x → (a ≡ k.a) × (b ≡ k.b)
struct-tag all base from to d left x a b k order room e ea eb =
    let f = struct-fields from to order room k.a k.b k.narrow k.short k.some in
    let w = e ∙ k.word in
    (ea ∙ ap (field 32 16) w ∙ f.0, eb ∙ ap (field 48 16) w ∙ f.1)
