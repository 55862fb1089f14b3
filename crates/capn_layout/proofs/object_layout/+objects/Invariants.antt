use Rattle.std.proofs.Common.{◌≡◌, ◌+◌, ◌-◌, ◌*◌, ◌/◌, ◌≤◌, length}
use Rattle.capn_value.specs.Tree.{Trees, Bodies, tree_at, count, count_rows, row_words}
use Rattle.std.proofs.Common.{ℕ, ◌<◌}
use Rattle.capn_words.specs.Message.{words_in}
use Rattle.capn_layout.specs.inner.Draft.{IsKept}
use Rattle.capn_layout.specs.LayoutSteps.{laid_slots, laid_rows, past, rows_past}
use Rattle.capn_layout.specs.Ready.{AreReady, RowsReady}
use Rattle.capn_layout.specs.Sound.{AreWide, SoundRows}
use Rattle.capn_layout.specs.Weight.{weights, weights_in_rows}
use Rattle.capn_layout.proofs.object_layout.+objects.Given as goal

abbrev pub decreases-lay_slot : goal.decreases-lay_slot
decreases-lay_slot g l = 5 * l.depth + 1

abbrev pub decreases-lay_list : goal.decreases-lay_list
decreases-lay_list g l = 5 * l.depth

abbrev pub decreases-lay_each : goal.decreases-lay_each
decreases-lay_each g l = 5 * l.depth + 2

abbrev pub decreases-lay_some_slots : goal.decreases-lay_some_slots
decreases-lay_some_slots g l = 5 * l.depth + 3

abbrev pub decreases-lay_slots : goal.decreases-lay_slots
decreases-lay_slots g l = 5 * l.depth + 4

abbrev pub decreases-lay_rows : goal.decreases-lay_rows
decreases-lay_rows g l = 5 * l.depth + 4

abbrev pub invariant-lay_each-loop-slot : goal.invariant-lay_each-loop-slot
invariant-lay_each-loop-slot g l = record {
  rest : (ts : Trees) → l.count ≤ count ts → ((k : ℕ) → k < l.count → g.S.Source.has l.source k (tree_at ts k))
      → laid_slots (l.count - l.slot) (past l.slot ts) (l.first + l.slot) (words_in l.end l.out)
      ≡ laid_slots l.count ts l.first (words_in l.len l.initial.out);
  inside : l.first + l.count ≤ l.end;
  ready : AreReady g.S.Source.has l.source l.slot l.count l.depth (length (words_in l.end l.out)) (length l.out / 8);
  same : IsKept l.end l.initial.out l.out;
  reads : (ts : Trees) → l.count ≤ count ts → ((k : ℕ) → k < l.count → g.S.Source.has l.source k (tree_at ts k))
      → g.S.Source.spent l.reads + 20 * weights (past l.slot ts)
      ≤ g.S.Source.spent l.fn.reads + 12 * l.slot + 20 * weights ts;
}

abbrev pub invariant-lay_rows-loop-row : goal.invariant-lay_rows-loop-row
invariant-lay_rows-loop-row g l = record {
  rest : (bs : Bodies) → g.S.Source.are l.rows bs → count_rows bs ≡ l.count → AreWide l.words l.slots bs → SoundRows bs
      → laid_rows l.words l.slots (rows_past l.row bs) l.next (words_in l.end l.out)
      ≡ laid_rows l.words l.slots bs l.first (words_in l.len l.initial.out);
  inside : l.next + (l.count - l.row) * (l.words + l.slots) ≤ l.end;
  ready : RowsReady g.S.Source.are l.rows l.row l.count l.words l.slots l.depth (length (words_in l.end l.out))
      (length l.out / 8);
  same : IsKept l.end l.initial.out l.out;
  reads : (bs : Bodies) → g.S.Source.are l.rows bs → count_rows bs ≡ l.count → AreWide l.words l.slots bs
      → SoundRows bs
      → g.S.Source.spent l.reads + 12 * row_words (rows_past l.row bs) + 20 * weights_in_rows (rows_past l.row bs)
      ≤ g.S.Source.spent l.fn.reads + l.row + 12 * row_words bs + 20 * weights_in_rows bs;
}
