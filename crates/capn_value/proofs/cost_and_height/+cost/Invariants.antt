use Rattle.std.proofs.Common.{◌≡◌, ◌+◌, ◌≤◌, drop, min}
use Rattle.capn_value.specs.Tree.{row_words}
use Rattle.capn_value.specs.TreeOf.{trees_of, rows_of}
use Rattle.capn_value.specs.Cost.{costs, costs_in_rows, dear}
use Rattle.capn_value.specs.InRange.{EachInRange, RowsInRange}
use Rattle.capn_value.proofs.cost_and_height.+cost.Given as goal

abbrev pub invariant-capped_costs-loop-v : goal.invariant-capped_costs-loop-v
invariant-capped_costs-loop-v g l = record {
  capped : l.sum ≤ dear;
  so_far : min (l.sum + costs l.base (trees_of (drop l.v-index l.items))) dear
      ≡ min (costs l.base (trees_of l.items)) dear;
  in_range : EachInRange (trees_of (drop l.v-index l.items)) → EachInRange (trees_of l.items);
}

abbrev pub invariant-measured_rows-loop-body : goal.invariant-measured_rows-loop-body
invariant-measured_rows-loop-body g l = record {
  few : l.words ≤ dear;
  words : min (l.words + row_words (rows_of (drop l.body-index l.bodies))) dear
      ≡ min (row_words (rows_of l.bodies)) dear;
  cheap : l.costs ≤ dear;
  costs : min (l.costs + costs_in_rows l.base (rows_of (drop l.body-index l.bodies))) dear
      ≡ min (costs_in_rows l.base (rows_of l.bodies)) dear;
  in_range : RowsInRange (rows_of (drop l.body-index l.bodies)) → RowsInRange (rows_of l.bodies);
}
