-- The price of an object pays for the reads of the object's own words. (For the cycle `walk`.)
use Rattle.std.proofs.Common.{ℕ, zero, suc, ◌+◌, ◌*◌, ◌≡◌, ◌≤◌, ◌==◌, arith, false, if◌then◌else◌}
use Rattle.std.proofs.lemmas.Bool.Decides.{nat_tests}
use Rattle.capn_words.specs.declared.pointer.Width.TheVariants.{W0, W1, W8, W16, W32, W64, Link, Rows}
use Rattle.capn_words.proofs.shared.Choices.{pick}
use Rattle.capn_target.specs.declared.target.Shape.{Shape}
use Rattle.capn_target.specs.declared.target.Shape.TheVariants as shapes
use Rattle.capn_walk.specs.Visits.{price}
use Rattle.capn_walk.specs.inner.OwnReads.{own_reads}
use Rattle.capn_target.specs.Shapes.{RowsFit}

at-least-once : (n k : ℕ) → 1 ≤ k → n ≤ n * k
at-least-once n zero h = absurd (omega arith)
at-least-once n (suc k) h = let e : n * suc k ≡ n + n * k = omega arith in omega arith

some : (k : ℕ) → (k == 0) ≡ false → 1 ≤ k
some k e = grind (arith, nat_tests)

rows-price : (base n a b span : ℕ) → n * (a + b) ≤ span
    → n * (1 + a) ≤ 2 * (base + 1 + span + (if a + b == 0 then n else 0))
rows-price base n a b span h =
    let d : n * (a + b) ≡ n * a + n * b = omega arith in
    let e : n * (1 + a) ≡ n + n * a = omega arith in
    pick (λ (x : ℕ). n * (1 + a) ≤ 2 * (base + 1 + span + x)) (a + b == 0) n 0 (λ _. omega arith)
    (λ no. let more = at-least-once n (a + b) (some (a + b) no) in omega arith)

pub own-reads-price : (base : ℕ) (shape : Shape) → RowsFit shape → own_reads shape ≤ 2 * price base shape
own-reads-price base (shapes.Node a b) h = omega arith
own-reads-price base (shapes.Many W0 n) h = omega arith
own-reads-price base (shapes.Many W1 n) h = omega arith
own-reads-price base (shapes.Many W8 n) h = omega arith
own-reads-price base (shapes.Many W16 n) h = omega arith
own-reads-price base (shapes.Many W32 n) h = omega arith
own-reads-price base (shapes.Many W64 n) h = omega arith
own-reads-price base (shapes.Many Link n) h = omega arith
own-reads-price base (shapes.Many Rows n) h = omega arith
own-reads-price base (shapes.Rows n a b span) h = rows-price base n a b span h
