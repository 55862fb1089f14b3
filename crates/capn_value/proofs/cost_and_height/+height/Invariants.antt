use Rattle.std.proofs.Common.{◌≡◌, ◌≤◌, max, min, drop}
use Rattle.capn_value.specs.TreeOf.{trees_of, rows_of}
use Rattle.capn_value.specs.Cost.{greatest, greatest_in_rows}
use Rattle.capn_value.proofs.cost_and_height.+height.Given as goal

abbrev pub invariant-capped_greatest-loop-v : goal.invariant-capped_greatest-loop-v
invariant-capped_greatest-loop-v g l = record {
  capped : l.most ≤ 257;
  so_far : min (max l.most (greatest (trees_of (drop l.v-index l.items)))) 257 ≡ min (greatest (trees_of l.items)) 257;
}

abbrev pub invariant-capped_greatest_in_rows-loop-body : goal.invariant-capped_greatest_in_rows-loop-body
invariant-capped_greatest_in_rows-loop-body g l = record {
  capped : l.most ≤ 257;
  so_far : min (max l.most (greatest_in_rows (rows_of (drop l.body-index l.bodies)))) 257
      ≡ min (greatest_in_rows (rows_of l.bodies)) 257;
}
