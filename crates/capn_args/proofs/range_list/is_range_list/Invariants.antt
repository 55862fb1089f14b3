use Rattle.std.proofs.Common.{◌≡◌, is_some, length}
use Rattle.capn_args.specs.RangeList.{ranges_from, ranges_in}
use Rattle.capn_args.proofs.range_list.is_range_list.Given as goal

abbrev pub invariant-loop-rest : goal.invariant-loop-rest
invariant-loop-rest l = is_some (ranges_from l.begun l.rest) ≡ is_some (ranges_in l.text)

abbrev pub decreases-loop-rest : goal.decreases-loop-rest
decreases-loop-rest l = length l.rest
