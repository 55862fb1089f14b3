use Rattle.std.proofs.Common.{◌≡◌, drop}
use Rattle.capn_value.specs.TreeOf.{trees_of}
use Rattle.capn_value.specs.inner.SameTest.{are_null}
use Rattle.capn_value.proofs.sameness.are_null.Given as goal

abbrev pub invariant-loop-v : goal.invariant-loop-v
invariant-loop-v g l = are_null (trees_of (drop l.v-index l.items)) ≡ are_null (trees_of l.items)
