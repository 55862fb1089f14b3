-- Each part is the same as itself.
use Rattle.std.proofs.Common.{◌≡◌, ℕ, ◌==◌, ◌&&◌, true, refl}
use Rattle.std.proofs.lemmas.Bool.{eq-eqb, and_from}
use Rattle.capn_words.specs.Pointers.{width_code}
use Rattle.capn_target.specs.declared.target.Shape.{Shape}
use Rattle.capn_target.specs.declared.target.Shape.TheVariants as shapes
use Rattle.capn_cover.specs.declared.part.Part.{Part}
use Rattle.capn_cover.specs.declared.part.Part.TheVariants.{Whole, Pad, Object}
use Rattle.capn_cover.specs.Parts.{same_shape, same_part}

two : (a b : ℕ) → ((a == a) && (b == b)) ≡ true
two a b = and_from (a == a) (b == b) (eq-eqb a a refl) (eq-eqb b b refl)

same-shape : (x : Shape) → same_shape x x ≡ true
same-shape (shapes.Node a b) = two a b
same-shape (shapes.Many w n) = two (width_code w) n
same-shape (shapes.Rows n a b span) =
    and_from ((n == n) && (a == a)) ((b == b) && (span == span)) (two n a) (two b span)

pub same-part : (p : Part) → same_part p p ≡ true
same-part Whole = refl
same-part (Pad s w n) = and_from ((s == s) && (w == w)) (n == n) (two s w) (eq-eqb n n refl)
same-part (Object s w x) = and_from ((s == s) && (w == w)) (same_shape x x) (two s w) (same-shape x)
