use Rattle.std.proofs.Common.{◌-◌, ◌≤◌}
use Rattle.capn_pack.specs.inner.Steps.{IsZeroRun}
use Rattle.capn_pack.proofs.runs.few_zeros.Given as goal

abbrev pub invariant-loop-count : goal.invariant-loop-count
invariant-loop-count l = (l.count ≤ 8) × IsZeroRun l.bytes l.start l.count

abbrev pub decreases-loop-count : goal.decreases-loop-count
decreases-loop-count l = 8 - l.count
