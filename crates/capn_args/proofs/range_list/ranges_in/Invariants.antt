use Rattle.std.proofs.Common.{◌≡◌, List, Some, length}
use Rattle.capn_serve.specs.declared.pick.Range.{Range}
use Rattle.capn_args.specs.RangeList.{ranges_from, ranges_in}
use Rattle.capn_args.proofs.RangeLists.{AreSoFar, after}
use Rattle.capn_args.proofs.range_list.ranges_in.Given as goal

abbrev pub invariant-loop-rest : goal.invariant-loop-rest
invariant-loop-rest g l = ((are : List Range) → ranges_in l.text ≡ Some are
    → after l.ranges.items (ranges_from l.begun l.rest) ≡ Some are)
    × AreSoFar 0 l.ranges.items l.begun.last

abbrev pub decreases-loop-rest : goal.decreases-loop-rest
decreases-loop-rest g l = length l.rest
