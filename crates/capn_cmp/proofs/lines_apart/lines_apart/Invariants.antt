use Rattle.std.proofs.Common.{length}
use Rattle.capn_cmp.specs.inner.Alike.{BeginAlike}
use Rattle.capn_cmp.proofs.lines_apart.lines_apart.Given as goal

abbrev pub invariant-loop-first : goal.invariant-loop-first
invariant-loop-first l = BeginAlike l.text l.other l.rest l.left

abbrev pub decreases-loop-first : goal.decreases-loop-first
decreases-loop-first l = length l.rest
