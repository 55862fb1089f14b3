use Rattle.std.proofs.Common.{◌≡◌, is_some, length}
use Rattle.capn_args.specs.Path.{path_from, path_of}
use Rattle.capn_args.proofs.path.is_path.Given as goal

abbrev pub invariant-loop-rest : goal.invariant-loop-rest
invariant-loop-rest l = is_some (path_from l.begun l.rest) ≡ is_some (path_of l.text)

abbrev pub decreases-loop-rest : goal.decreases-loop-rest
decreases-loop-rest l = length l.rest
