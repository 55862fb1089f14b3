use Rattle.std.proofs.Common.{◌-◌}
use Rattle.capn_pack.specs.inner.Steps.{IsDenseRun}
use Rattle.capn_pack.proofs.runs.few_dense.Given as goal

abbrev pub invariant-loop-count : goal.invariant-loop-count
invariant-loop-count l = IsDenseRun l.bytes l.start 8 l.count

abbrev pub decreases-loop-count : goal.decreases-loop-count
decreases-loop-count l = 8 - l.count
