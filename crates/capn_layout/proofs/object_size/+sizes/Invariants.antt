use Rattle.std.proofs.Common.{◌≡◌, ℕ, ◌+◌, ◌*◌, ◌<◌, ◌≤◌}
use Rattle.capn_value.specs.Tree.{Trees, Bodies, tree_at, count, count_rows, row_words}
use Rattle.capn_value.specs.Trim.{kept_slots_of_rows}
use Rattle.capn_layout.specs.Layout.{sizes, sizes_in_rows}
use Rattle.capn_layout.specs.LayoutSteps.{past, rows_past}
use Rattle.capn_layout.specs.Sound.{AreWide, SoundRows}
use Rattle.capn_layout.specs.Weight.{weights, weights_in_rows}
use Rattle.capn_layout.proofs.object_size.+sizes.Given as goal

abbrev pub decreases-size_of_slot : goal.decreases-size_of_slot
decreases-size_of_slot g l = 4 * l.depth

abbrev pub decreases-size_of_slots : goal.decreases-size_of_slots
decreases-size_of_slots g l = 4 * l.depth + 1

abbrev pub decreases-size_of_rows : goal.decreases-size_of_rows
decreases-size_of_rows g l = 4 * l.depth + 2

abbrev pub invariant-size_of_slots-loop-slot : goal.invariant-size_of_slots-loop-slot
invariant-size_of_slots-loop-slot g l = record {
  size : (ts : Trees) → l.number ≤ count ts → ((k : ℕ) → k < l.number → g.S.Source.has l.source k (tree_at ts k))
      → l.size + sizes (past l.slot ts) ≡ sizes ts;
  reads : (ts : Trees) → l.number ≤ count ts → ((k : ℕ) → k < l.number → g.S.Source.has l.source k (tree_at ts k))
      → g.S.Source.spent l.reads + 20 * weights (past l.slot ts)
      ≤ g.S.Source.spent l.fn.reads + 12 * l.slot + 20 * weights ts;
}

abbrev pub invariant-size_of_rows-loop-row : goal.invariant-size_of_rows-loop-row
invariant-size_of_rows-loop-row g l = record {
  size : (bs : Bodies) → g.S.Source.are l.rows bs → count_rows bs ≡ l.number → kept_slots_of_rows bs ≤ l.slots
      → AreWide l.words l.slots bs → SoundRows bs
      → l.size + sizes_in_rows (rows_past l.row bs) ≡ sizes_in_rows bs;
  reads : (bs : Bodies) → g.S.Source.are l.rows bs → count_rows bs ≡ l.number → AreWide l.words l.slots bs
      → SoundRows bs
      → g.S.Source.spent l.reads + 12 * row_words (rows_past l.row bs) + 20 * weights_in_rows (rows_past l.row bs)
      ≤ g.S.Source.spent l.fn.reads + l.row + 12 * row_words bs + 20 * weights_in_rows bs;
}
