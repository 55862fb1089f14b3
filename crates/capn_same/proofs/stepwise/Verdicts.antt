-- A result is correct for two contents if it is correct for their slots, their rows or their bits. (For
-- `is_same_content`.)
use Rattle.std.proofs.Common.{◌≡◌, ◌↔◌, ℕ, ◌+◌, ◌*◌, ◌≤◌, Bool, IsTrue, List, sym, subst}
use Rattle.capn_words.specs.declared.space.Place.{Place}
use Rattle.capn_words.specs.declared.pointer.Width.{Width}
use Rattle.capn_words.specs.declared.pointer.Width.TheVariants.{Link}
use Rattle.capn_value.specs.Tree.{Tree, Trees, Bodies}
use Rattle.capn_value.specs.Same.{Same, SameSlots, SameRows}
use Rattle.capn_target.specs.declared.target.Shape.{Shape}
use Rattle.capn_target.specs.declared.target.Shape.TheVariants as shapes
use Rattle.capn_target.specs.Target.{words_for}
use Rattle.capn_layout.specs.Weight.{weight}
use Rattle.capn_walk.specs.ValueAt.{IsInside, words_from}
use Rattle.capn_layout.specs.FirstBits.{element_bits, first_bits}
use Rattle.capn_same.specs.inner.Held.{AreIn, AreRowsIn, HasContent}
use Rattle.capn_same.proofs.stepwise.Numbers.{same-bits}
use Rattle.capn_same.proofs.stepwise.Contents.{same-links, same-rows, are-in, are-rows, is-list, is-plain, list-weighs}

module _ (m k : List (List ℕ)) (at beside : Place) (depth : ℕ) (r : Bool) where
  -- `r` tells whether the content of `x` at `at` is the same as the content of `y` at `beside`, if both are at most
  -- `depth` objects high
  abbrev pub Says : Shape → Shape → Type 0
  Says x y = HasContent m x at depth → HasContent k y beside depth → (v w : Tree)
      → IsInside m x at.segment at.word v → IsInside k y beside.segment beside.word w → IsTrue r ↔ Same v w

  to-shapes : (x y p q : Shape) → x ≡ p → y ≡ q → Says p q → Says x y
  to-shapes x y p q e f h =
      subst (λ (s : Shape). Says x s) (sym f) (subst (λ (s : Shape). Says s q) (sym e) h)

  pub says-links : (x y : Shape) (n : ℕ) → x ≡ shapes.Many Link n → y ≡ shapes.Many Link n
      → ((ss ts : Trees) → AreIn m at n ss → AreIn k beside n ts → IsTrue r ↔ SameSlots ss ts) → Says x y
  says-links x y n e f o =
      to-shapes x y (shapes.Many Link n) (shapes.Many Link n) e f
      (λ a b v w h g. same-links m k n at.segment at.word beside.segment beside.word v w h g r
      (o _ _ (are-in m n depth at v a h) (are-in k n depth beside w b g)))

  pub says-rows : (x y : Shape) (n a b p c d q : ℕ) → x ≡ shapes.Rows n a b p → y ≡ shapes.Rows n c d q
      → ((bs cs : Bodies) → AreRowsIn m (record { segment = at.segment; word = at.word + 1 }) n a b bs
      → AreRowsIn k (record { segment = beside.segment; word = beside.word + 1 }) n c d cs → IsTrue r ↔ SameRows bs cs)
      → Says x y
  says-rows x y n a b p c d q e f o =
      to-shapes x y (shapes.Rows n a b p) (shapes.Rows n c d q) e f
      (λ i j v w h g. same-rows m k n a b p c d q at.segment at.word beside.segment beside.word v w h g r
      (o _ _ (are-rows m n a b p depth at v i h) (are-rows k n c d q depth beside w j g)))

  pub says-bits : (x y : Shape) (width : Width) (n bits : ℕ) → x ≡ shapes.Many width n → y ≡ shapes.Many width n
      → (width ≡ Link → ⊥) → bits ≡ element_bits width * n
      → (IsTrue r ↔ (first_bits bits (words_from m at.segment at.word)
      ≡ first_bits bits (words_from k beside.segment beside.word))) → Says x y
  says-bits x y width n bits e f ne eb o =
      to-shapes x y (shapes.Many width n) (shapes.Many width n) e f
      (λ a b v w h g.
      let plain = is-plain m width n depth at ne a in
      let s = same-bits m k width n at.segment at.word beside.segment beside.word v w plain
      (is-list m width n depth at v plain a h) (is-list k width n depth beside w plain b g) in
      let q = subst (λ (i : ℕ). IsTrue r ↔ (first_bits i (words_from m at.segment at.word)
      ≡ first_bits i (words_from k beside.segment beside.word))) eb o in
      ((λ t. s.0 (q.0 t)), (λ z. q.1 (s.1 z))))

pub bits-weigh : (m : List (List ℕ)) (x : Shape) (width : Width) (n bits depth : ℕ) (at : Place) (v : Tree)
    → x ≡ shapes.Many width n → (width ≡ Link → ⊥) → bits ≡ element_bits width * n → HasContent m x at depth
    → IsInside m x at.segment at.word v → words_for bits ≤ weight v
bits-weigh m x width n bits depth at v e ne eb c h =
    let d = subst (λ (s : Shape). HasContent m s at depth) e c in
    let i = subst (λ (s : Shape). IsInside m s at.segment at.word v) e h in
    subst (λ (b : ℕ). words_for b ≤ weight v) (sym eb)
    (list-weighs m width n at.segment at.word v (is-plain m width n depth at ne d) i)

pub rows-there : (m k : List (List ℕ)) (p q s t : Place) (n a b c d : ℕ) (r : Bool) → p ≡ s → q ≡ t
    → ((bs cs : Bodies) → AreRowsIn m p n a b bs → AreRowsIn k q n c d cs → IsTrue r ↔ SameRows bs cs)
    → (bs cs : Bodies) → AreRowsIn m s n a b bs → AreRowsIn k t n c d cs → IsTrue r ↔ SameRows bs cs
rows-there m k p q s t n a b c d r e f h bs cs x y =
    h bs cs (subst (λ (o : Place). AreRowsIn m o n a b bs) (sym e) x)
    (subst (λ (o : Place). AreRowsIn k o n c d cs) (sym f) y)
