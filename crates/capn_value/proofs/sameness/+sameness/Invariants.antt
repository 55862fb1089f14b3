use Rattle.std.proofs.Common.{◌≡◌, drop}
use Rattle.capn_value.specs.TreeOf.{trees_of, rows_of}
use Rattle.capn_value.specs.inner.SameTest.{test_slots, test_each, test_rows}
use Rattle.capn_value.proofs.sameness.+sameness.Given as goal

abbrev pub invariant-test_slots-loop-i : goal.invariant-test_slots-loop-i
invariant-test_slots-loop-i g l =
    test_slots (trees_of (drop l.i l.a)) (trees_of (drop l.i l.b)) ≡ test_slots (trees_of l.a) (trees_of l.b)

abbrev pub invariant-test_each-loop-i : goal.invariant-test_each-loop-i
invariant-test_each-loop-i g l =
    test_each (trees_of (drop l.i l.a)) (trees_of (drop l.i l.b)) ≡ test_each (trees_of l.a) (trees_of l.b)

abbrev pub invariant-test_rows-loop-i : goal.invariant-test_rows-loop-i
invariant-test_rows-loop-i g l =
    test_rows (rows_of (drop l.i l.a)) (rows_of (drop l.i l.b)) ≡ test_rows (rows_of l.a) (rows_of l.b)
