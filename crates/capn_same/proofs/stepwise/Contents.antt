-- Conditions under which the contents of two slots are the same, or are not the same. (For `objects.rt`.)
use Rattle.std.proofs.Common.{◌≡◌, ◌↔◌, ℕ, ◌+◌, ◌*◌, ◌≤◌, ◌^◌, ◌%◌, ◌==◌, Bool, false, IsTrue, List, length, Ok}
use Rattle.std.proofs.Common.{refl, ap, ap₂, sym, subst, ◌∙◌, arith, length-drop}
use Rattle.std.proofs.lemmas.Bool.{false≢true, eqb-true, eq-eqb}
use Rattle.std.proofs.lemmas.List.{get_or-drop}
use Rattle.capn_words.specs.Message.{segment_at}
use Rattle.capn_words.specs.declared.space.Place.{Place}
use Rattle.capn_words.specs.declared.pointer.Width.{Width}
use Rattle.capn_words.specs.declared.pointer.Width.TheVariants.{W0, W1, W8, W16, W32, W64, Link, Rows}
use Rattle.capn_value.specs.Tree.{Tree, nil, node, voids, numbers, links, rows, cap}
use Rattle.capn_value.specs.Same.{Same, SameSlots, SameRows}
use Rattle.capn_target.specs.declared.target.Target.TheVariants as targets
use Rattle.capn_target.specs.declared.target.Shape.{Shape}
use Rattle.capn_target.specs.declared.target.Shape.TheVariants as shapes
use Rattle.capn_target.specs.Target.{target, words_for, content_words, list_width}
use Rattle.capn_target.specs.Shapes.{IsPlain, RowsFit}
use Rattle.capn_target.proofs.shared.Inside.{inside}
use Rattle.capn_target.proofs.shared.Present.{present}
use Rattle.capn_walk.specs.ValueAt.{IsInside}
use Rattle.capn_layout.specs.FirstBits.{element_bits}
use Rattle.capn_layout.specs.Weight.{weight}
use Rattle.capn_layout.proofs.shared.Shaped.{inside-of, as-links, as-rows}
use Rattle.capn_layout.proofs.shared.FirstBits.{plain-words}
use Rattle.capn_same.specs.inner.Runs.{AreZeros}
use Rattle.capn_same.specs.inner.Held.{HasValue, AreIn, AreRowsIn, HasContent}
use Rattle.capn_same.proofs.stepwise.Kinds.{shape_count, inside-count, same-count}
use Rattle.capn_same.proofs.stepwise.Numbers.{IsList}
use Rattle.capn_same.proofs.stepwise.Slots.{slots-each}

pub no : {P : Type 0} → (P → ⊥) → IsTrue false ↔ P
no n = ((λ e. absurd (false≢true e)), (λ h. absurd (n h)))

pub zeros-at : (m : List (List ℕ)) (p q : Place) (n : ℕ) (r : Bool) → p ≡ q
    → (IsTrue r ↔ AreZeros (segment_at m p.segment) p.word n) → IsTrue r ↔ AreZeros (segment_at m q.segment) q.word n
zeros-at m p q n r e h = subst (λ (x : Place). IsTrue r ↔ AreZeros (segment_at m x.segment) x.word n) e h

pub last-test : (x y mask w v k : ℕ) → x ≡ w → y ≡ v → mask ≡ 2 ^ k
    → IsTrue (x % mask == y % mask) ↔ (w % 2 ^ k ≡ v % 2 ^ k)
last-test x y mask w v k ex ey em =
    let left = ap₂ (λ (a b : ℕ). a % b) ex em in
    let right = ap₂ (λ (a b : ℕ). a % b) ey em in (
      (λ t. sym left ∙ eqb-true (x % mask) (y % mask) t ∙ right),
      (λ e. eq-eqb (x % mask) (y % mask) (left ∙ e ∙ sym right)),
    )

module _ (m k : List (List ℕ)) where
  pub lengths-apart : (x y : Shape) (s w t u : ℕ) (v z : Tree) → IsInside m x s w v → IsInside k y t u z
      → (shape_count x ≡ shape_count y → ⊥) → IsTrue false ↔ Same v z
  lengths-apart x y s w t u v z h g n =
      no (λ e. n (inside-count m x s w v h ∙ same-count v z e ∙ sym (inside-count k y t u z g)))

  -- if `r` tells whether the slots of the lists `v` and `z` of `n` pointers are the same, `r` tells whether `v` and `z`
  -- are the same
  pub same-links : (n s w t u : ℕ) (v z : Tree) (h : IsInside m (shapes.Many Link n) s w v)
      (g : IsInside k (shapes.Many Link n) t u z) (r : Bool)
      → (IsTrue r ↔ SameSlots (as-links m n s w v h).slots (as-links k n t u z g).slots) → IsTrue r ↔ Same v z
  same-links n s w t u v z h g r q =
      let x = as-links m n s w v h in
      let y = as-links k n t u z g in
      let e = slots-each x.slots y.slots (x.count ∙ sym y.count) in
      subst (λ (p : Tree). IsTrue r ↔ Same v p) (sym y.is)
      (subst (λ (p : Tree). IsTrue r ↔ Same p (links y.slots)) (sym x.is) ((λ b. e.0 (q.0 b)), (λ o. q.1 (e.1 o))))

  -- if `r` tells whether the rows of the lists `v` and `z` of `n` structs are the same, `r` tells whether `v` and `z`
  -- are the same
  pub same-rows : (n a b p c d q s w t u : ℕ) (v z : Tree) (h : IsInside m (shapes.Rows n a b p) s w v)
      (g : IsInside k (shapes.Rows n c d q) t u z) (r : Bool)
      → (IsTrue r ↔ SameRows (as-rows m n a b p s w v h).bodies (as-rows k n c d q t u z g).bodies)
      → IsTrue r ↔ Same v z
  same-rows n a b p c d q s w t u v z h g r o =
      let x = as-rows m n a b p s w v h in
      let y = as-rows k n c d q t u z g in
      subst (λ (i : Tree). IsTrue r ↔ Same v i) (sym y.is)
      (subst (λ (i : Tree). IsTrue r ↔ Same i (rows y.bodies)) (sym x.is) o)

plain-width : (width : Width) (n : ℕ) → (width ≡ Link → ⊥) → RowsFit (shapes.Many width n) → IsPlain width
plain-width W0 n h r = tt
plain-width W1 n h r = tt
plain-width W8 n h r = tt
plain-width W16 n h r = tt
plain-width W32 n h r = tt
plain-width W64 n h r = tt
plain-width Link n h r = h refl
plain-width Rows n h r = r

module _ (m : List (List ℕ)) where
  pub has-content : (at : Place) (depth s start pads : ℕ) (shape : Shape) → HasValue m at depth
      → target m at ≡ Ok (targets.Content s start shape pads)
      → HasContent m shape (record { segment = s; word = start }) depth
  has-content at depth s start pads shape r e =
      let i = inside m at s start pads shape e in
      record {
        message = r.is.message;
        content = record { exists = present m at s start pads shape r.is.place e; within = i.0 };
        fits = i.1;
        value = r.value;
        is = inside-of m at s start pads shape e r.value r.is.at;
        low = r.low;
      }

  pub are-in : (n depth : ℕ) (at : Place) (v : Tree) → HasContent m (shapes.Many Link n) at depth
      → (h : IsInside m (shapes.Many Link n) at.segment at.word v)
      → AreIn m at n (as-links m n at.segment at.word v h).slots
  are-in n depth at v r h =
      let x = as-links m n at.segment at.word v h in
      record { message = r.message; content = r.content; number = x.count; are = x.below }

  pub are-rows : (n a b span depth : ℕ) (at : Place) (v : Tree) → HasContent m (shapes.Rows n a b span) at depth
      → (h : IsInside m (shapes.Rows n a b span) at.segment at.word v)
      → AreRowsIn m (record { segment = at.segment; word = at.word + 1 }) n a b
      (as-rows m n a b span at.segment at.word v h).bodies
  are-rows n a b span depth at v r h =
      let x = as-rows m n a b span at.segment at.word v h in
      let w = r.content.within in
      let f = r.fits in
      record {
        message = r.message;
        content = record { exists = r.content.exists; within = omega arith };
        number = x.count;
        rows = x.below;
      }

  pub is-list : (width : Width) (n depth : ℕ) (at : Place) (v : Tree) → IsPlain width
      → HasContent m (shapes.Many width n) at depth → IsInside m (shapes.Many width n) at.segment at.word v
      → IsList m width n at.segment at.word v
  is-list width n depth at v plain r h =
      let w = r.content.within in
      let k = plain-words width n plain in
      let d = length-drop at.word (segment_at m at.segment) in
      record {
        each = λ i. let e = get_or-drop at.word (segment_at m at.segment) i 0 in
            let b = r.message.each at.segment (at.word + i) in omega arith;
        room = omega arith;
        is = h;
      }

  pub is-plain : (width : Width) (n depth : ℕ) (at : Place) → (width ≡ Link → ⊥)
      → HasContent m (shapes.Many width n) at depth → IsPlain width
  is-plain width n depth at ne r = plain-width width n ne r.fits

  pub list-weighs : (width : Width) (n s w : ℕ) (v : Tree) → IsPlain width → IsInside m (shapes.Many width n) s w v
      → words_for (element_bits width * n) ≤ weight v
  list-weighs width n s w nil plain h = absurd h
  list-weighs width n s w (cap k) plain h = absurd h
  list-weighs width n s w (node ws ss) plain h = let f = h.0 in absurd (cc)
  list-weighs width n s w (links ts) plain h =
      let f = h.0 in let e : width ≡ Link = cc in absurd (subst IsPlain e plain)
  list-weighs width n s w (rows bs) plain h = let f = h.3 in absurd (cc)
  list-weighs width n s w (voids k) plain h =
      let e : width ≡ W0 = cc in
      let p = plain-words width n plain in
      let c = ap (λ (x : Width). content_words x n) e in
      omega arith
  list-weighs width n s w (numbers a xs) plain h =
      let f = h.0 in
      let e : width ≡ list_width a = cc in
      let l : n ≡ length xs = cc in
      let p = plain-words width n plain in
      let c = ap (λ (x : Width). content_words x n) e in
      let d = ap (content_words (list_width a)) l in
      let o : weight (numbers a xs) ≡ content_words (list_width a) (length xs) = refl in
      omega arith
