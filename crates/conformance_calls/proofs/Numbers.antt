-- The number of numbers in a list, by the kind of its view. This serves `number_of` of `views`.
use Rattle.std.proofs.Common.{◌≡◌, ℕ, ◌+◌, refl, arith}
use Rattle.capn_words.specs.declared.pointer.Width.TheVariants.{W0, W1, W8, W16, W32, W64, Link, Rows}
use Rattle.capn_target.specs.declared.target.Target.{Target}
use Rattle.capn_target.specs.declared.target.Target.TheVariants as targets
use Rattle.capn_target.specs.declared.target.Shape.TheVariants as shapes
use Rattle.capn_walk.specs.declared.kind.Kind.{Kind}
use Rattle.capn_walk.specs.declared.kind.Kind.TheVariants as kinds
use Rattle.capn_walk.specs.View.{kind_of, len_of, numbers_in}

-- `others k n`: the number of elements that are not numbers, in a list of `n` elements whose view has the kind `k`.
abbrev pub others : Kind → ℕ → ℕ
others kinds.Voids n = n
others kinds.Links n = n
others kinds.Rows n = n
others _ n = 0

pub numbers_and_others : (t : Target) → len_of t ≡ numbers_in t + others (kind_of t) (len_of t)
numbers_and_others targets.Nil = refl
numbers_and_others (targets.Cap k) = refl
numbers_and_others (targets.Content s start (shapes.Node a b) pads) = refl
numbers_and_others (targets.Content s start (shapes.Rows n a b span) pads) = omega arith
numbers_and_others (targets.Content s start (shapes.Many W0 n) pads) = omega arith
numbers_and_others (targets.Content s start (shapes.Many W1 n) pads) = omega arith
numbers_and_others (targets.Content s start (shapes.Many W8 n) pads) = omega arith
numbers_and_others (targets.Content s start (shapes.Many W16 n) pads) = omega arith
numbers_and_others (targets.Content s start (shapes.Many W32 n) pads) = omega arith
numbers_and_others (targets.Content s start (shapes.Many W64 n) pads) = omega arith
numbers_and_others (targets.Content s start (shapes.Many Link n) pads) = omega arith
numbers_and_others (targets.Content s start (shapes.Many Rows n) pads) = omega arith
