use Rattle.std.proofs.Common.{◌≡◌, ◌||◌, drop}
use Rattle.capn_value.specs.TreeOf.{trees_of, rows_of}
use Rattle.capn_value.specs.Fits.{anywhere_in, anywhere_in_rows, is_wide, is_long, is_ragged}
use Rattle.capn_value.proofs.flaws.+flaws_of.Given as goal

abbrev pub invariant-flaws_of_each-loop-v : goal.invariant-flaws_of_each-loop-v
invariant-flaws_of_each-loop-v g l = record {
  wide : (l.found.wide || anywhere_in is_wide (trees_of (drop l.v-index l.items)))
      ≡ anywhere_in is_wide (trees_of l.items);
  long : (l.found.long || anywhere_in is_long (trees_of (drop l.v-index l.items)))
      ≡ anywhere_in is_long (trees_of l.items);
  ragged : (l.found.ragged || anywhere_in is_ragged (trees_of (drop l.v-index l.items)))
      ≡ anywhere_in is_ragged (trees_of l.items);
}

abbrev pub invariant-flaws_of_rows-loop-body : goal.invariant-flaws_of_rows-loop-body
invariant-flaws_of_rows-loop-body g l = record {
  wide : (l.found.wide || anywhere_in_rows is_wide (rows_of (drop l.body-index l.bodies)))
      ≡ anywhere_in_rows is_wide (rows_of l.bodies);
  long : (l.found.long || anywhere_in_rows is_long (rows_of (drop l.body-index l.bodies)))
      ≡ anywhere_in_rows is_long (rows_of l.bodies);
  ragged : (l.found.ragged || anywhere_in_rows is_ragged (rows_of (drop l.body-index l.bodies)))
      ≡ anywhere_in_rows is_ragged (rows_of l.bodies);
}
