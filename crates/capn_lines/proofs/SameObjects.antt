-- Objects that are the same part are equal.
use Rattle.std.proofs.Common.{◌≡◌, ℕ, ◌==◌, ◌&&◌}
use Rattle.std.proofs.Common.{Bool, true, false}
use Rattle.std.proofs.Common.{refl, sym, ◌∙◌, ap, ap₂, arith, if◌then◌else◌}
use Rattle.std.proofs.lemmas.Bool.{eq-eqb, and_from}
use Rattle.std.proofs.lemmas.Bool.Decides.{nat_tests}
use Rattle.capn_words.specs.Pointers.{width_code}
use Rattle.capn_words.specs.declared.pointer.Width.{Width}
use Rattle.capn_words.specs.declared.pointer.Width.TheVariants.{W0, W1, W8, W16, W32, W64, Link, Rows}
use Rattle.capn_target.specs.declared.target.Shape.{Shape}
use Rattle.capn_target.specs.declared.target.Shape.TheVariants as shapes
use Rattle.capn_cover.specs.declared.part.Part.{Part}
use Rattle.capn_cover.specs.declared.part.Part.TheVariants as parts
use Rattle.capn_cover.specs.Parts.{same_part, same_shape, same_width}

pub both-true : (a b : Bool) → (a && b) ≡ true → (a ≡ true) × (b ≡ true)
both-true true true e = (refl, refl)
both-true true false e = absurd cc
both-true false b e = absurd cc

pub same-numbers : (a b : ℕ) → (a == b) ≡ true → a ≡ b
same-numbers a b e = grind (arith, nat_tests)

abbrev pub width_at : ℕ → Width
width_at n =
    if n == 0 then W0 else if n == 1 then W1 else if n == 2 then W8 else if n == 3 then W16
    else if n == 4 then W32 else if n == 5 then W64 else if n == 6 then Link else Rows

pub width-code : (v : Width) → width_at (width_code v) ≡ v
width-code W0 = refl
width-code W1 = refl
width-code W8 = refl
width-code W16 = refl
width-code W32 = refl
width-code W64 = refl
width-code Link = refl
width-code Rows = refl

pub width-equal : (v w : Width) → same_width v w ≡ true → v ≡ w
width-equal v w e =
    sym (width-code v) ∙ ap width_at (same-numbers (width_code v) (width_code w) e) ∙ width-code w

pub shape-equal : (x y : Shape) → same_shape x y ≡ true → x ≡ y
shape-equal (shapes.Node a b) (shapes.Node c d) e =
    let h = both-true (a == c) (b == d) e in
    ap₂ shapes.Node (same-numbers a c h.0) (same-numbers b d h.1)
shape-equal (shapes.Many v n) (shapes.Many w k) e =
    let h = both-true (same_width v w) (n == k) e in
    ap₂ shapes.Many (width-equal v w h.0) (same-numbers n k h.1)
shape-equal (shapes.Rows n a b span) (shapes.Rows k c d size) e =
    let h = both-true ((n == k) && (a == c)) ((b == d) && (span == size)) e in
    let x = both-true (n == k) (a == c) h.0 in
    let y = both-true (b == d) (span == size) h.1 in
    let p = same-numbers n k x.0 in
    let q = same-numbers a c x.1 in
    let r = same-numbers b d y.0 in
    let s = same-numbers span size y.1 in
    rw (p, q, r, s) refl
shape-equal (shapes.Node a b) (shapes.Many w k) e = absurd cc
shape-equal (shapes.Node a b) (shapes.Rows k c d size) e = absurd cc
shape-equal (shapes.Many v n) (shapes.Node c d) e = absurd cc
shape-equal (shapes.Many v n) (shapes.Rows k c d size) e = absurd cc
shape-equal (shapes.Rows n a b span) (shapes.Node c d) e = absurd cc
shape-equal (shapes.Rows n a b span) (shapes.Many w k) e = absurd cc

pub record AreOne (s start : ℕ) (shape : Shape) (t first : ℕ) (form : Shape) : Type 0 where
  pub segments : s ≡ t
  pub words : start ≡ first
  pub shapes_same : shape ≡ form

pub object-equal : (s start t first : ℕ) (shape form : Shape)
    → same_part (parts.Object s start shape) (parts.Object t first form) ≡ true → AreOne s start shape t first form
object-equal s start t first shape form e =
    let h = both-true ((s == t) && (start == first)) (same_shape shape form) e in
    let x = both-true (s == t) (start == first) h.0 in
    record {
      segments = same-numbers s t x.0;
      words = same-numbers start first x.1;
      shapes_same = shape-equal shape form h.1;
    }

pub two-same : (a b : ℕ) → ((a == a) && (b == b)) ≡ true
two-same a b = and_from (a == a) (b == b) (eq-eqb a a refl) (eq-eqb b b refl)

pub shape-self : (x : Shape) → same_shape x x ≡ true
shape-self (shapes.Node a b) = two-same a b
shape-self (shapes.Many w n) = two-same (width_code w) n
shape-self (shapes.Rows n a b span) =
    and_from ((n == n) && (a == a)) ((b == b) && (span == span)) (two-same n a) (two-same b span)

pub part-self : (p : Part) → same_part p p ≡ true
part-self parts.Whole = refl
part-self (parts.Pad s w n) =
    and_from ((s == s) && (w == w)) (n == n) (two-same s w) (eq-eqb n n refl)
part-self (parts.Object s w x) =
    and_from ((s == s) && (w == w)) (same_shape x x) (two-same s w) (shape-self x)
