use Rattle.std.proofs.Common.{◌≡◌, ℕ, List, Some, length}
use Rattle.capn_args.specs.Path.{path_from, path_of}
use Rattle.capn_args.proofs.Paths.{after}
use Rattle.capn_args.proofs.path.numbers_in.Given as goal

abbrev pub invariant-loop-rest : goal.invariant-loop-rest
invariant-loop-rest g l = (path : List ℕ) → path_of l.text ≡ Some path
    → after l.numbers.items (path_from l.begun l.rest) ≡ Some path

abbrev pub decreases-loop-rest : goal.decreases-loop-rest
decreases-loop-rest g l = length l.rest
