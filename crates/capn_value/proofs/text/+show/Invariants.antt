use Rattle.std.proofs.Common.{◌≡◌, ◌++◌, ◌≤◌, drop, string_bytes}
use Rattle.capn_value.specs.TreeOf.{trees_of, rows_of}
use Rattle.capn_value.specs.Cost as sizes
use Rattle.capn_value.specs.Text.{shown_each, shown_rows}
use Rattle.capn_value.proofs.text.+show.Given as goal

abbrev pub invariant-show_each-loop-v : goal.invariant-show_each-loop-v
invariant-show_each-loop-v g l = record {
  low : sizes.greatest (trees_of (drop l.v-index l.items)) ≤ sizes.greatest (trees_of l.items);
  so_far : string_bytes l.out ++ shown_each l.level (trees_of (drop l.v-index l.items)) ≡ string_bytes l.initial.out
      ++ shown_each l.level (trees_of l.items);
}

abbrev pub invariant-show_rows-loop-row : goal.invariant-show_rows-loop-row
invariant-show_rows-loop-row g l = record {
  low : sizes.greatest_in_rows (rows_of (drop l.row-index l.rows)) ≤ sizes.greatest_in_rows (rows_of l.rows);
  so_far : string_bytes l.out ++ shown_rows l.level (rows_of (drop l.row-index l.rows)) ≡ string_bytes l.initial.out
      ++ shown_rows l.level (rows_of l.rows);
}
