use Rattle.std.proofs.Common.{◌≡◌, length}
use Rattle.capn_make.specs.inner.RunParts.{holds_end}
use Rattle.capn_make.proofs.end_line.holds_end.Given as goal

abbrev pub invariant-loop-rest : goal.invariant-loop-rest
invariant-loop-rest l = holds_end l.rest ≡ holds_end l.bytes

abbrev pub decreases-loop-rest : goal.decreases-loop-rest
decreases-loop-rest l = length l.rest
