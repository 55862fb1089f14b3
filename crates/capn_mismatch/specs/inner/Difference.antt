-- The result of a comparison of two lists of words.
use Rattle.std.specs.Prelude.{◌≡◌, ℕ, List}
use Rattle.capn_mismatch.specs.declared.difference.Difference.{Difference}
use Rattle.capn_mismatch.specs.declared.difference.Difference.TheVariants as differences
use Rattle.capn_mismatch.specs.Difference.{Differ, GoesOn}

-- The given `Difference` is the first difference of the lists of words `xs` and `ys`.
abbrev pub IsDifference : List ℕ → List ℕ → Difference → Type 0
IsDifference xs ys differences.None = xs ≡ ys
IsDifference xs ys (differences.Word k x y) = Differ xs ys k x y
IsDifference xs ys (differences.After k x) = GoesOn xs ys k x
IsDifference xs ys (differences.Short k y) = GoesOn ys xs k y
