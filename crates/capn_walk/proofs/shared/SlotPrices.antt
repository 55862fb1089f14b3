-- The price of an object pays for the object's slots. (For the cycle `walk`.)
use Rattle.std.proofs.Common.{ℕ, ◌+◌, ◌*◌, ◌≡◌, ◌≤◌, ◌==◌, arith}
use Rattle.capn_words.specs.declared.pointer.Width.TheVariants.{W0, W1, W8, W16, W32, W64, Link, Rows}
use Rattle.capn_words.proofs.shared.Choices.{pick}
use Rattle.capn_target.specs.declared.target.Shape.{Shape}
use Rattle.capn_target.specs.declared.target.Shape.TheVariants as shapes
use Rattle.capn_walk.specs.Visits.{price}
use Rattle.capn_target.specs.Shapes.{slot_count, RowsFit}

-- if `RowsFit shape` is true, the number of slots of `shape` is at most the price of `shape`, even if `base` is 0
pub slots-price : (base : ℕ) (shape : Shape) → RowsFit shape → slot_count shape ≤ price base shape
slots-price base (shapes.Node a b) h = omega arith
slots-price base (shapes.Many W0 n) h = omega arith
slots-price base (shapes.Many W1 n) h = omega arith
slots-price base (shapes.Many W8 n) h = omega arith
slots-price base (shapes.Many W16 n) h = omega arith
slots-price base (shapes.Many W32 n) h = omega arith
slots-price base (shapes.Many W64 n) h = omega arith
slots-price base (shapes.Many Link n) h = omega arith
slots-price base (shapes.Many Rows n) h = omega arith
slots-price base (shapes.Rows n a b span) h =
    let d : n * (a + b) ≡ n * a + n * b = omega arith in
    pick (λ (x : ℕ). n * b ≤ base + 1 + span + x) (a + b == 0) n 0 (λ _. omega arith) (λ _. omega arith)
