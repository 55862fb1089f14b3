use Rattle.std.proofs.Common.{◌≡◌, ◌↔◌, ◌+◌, ◌*◌, ◌≤◌}
use Rattle.capn_value.specs.Tree.{Trees, Bodies}
use Rattle.capn_value.specs.Same.{SameSlots, SameRows}
use Rattle.capn_layout.specs.LayoutSteps.{past, rows_past}
use Rattle.capn_layout.specs.Weight.{weights, weights_in_rows}
use Rattle.capn_same.specs.inner.Held.{AreIn, AreRowsIn}
use Rattle.capn_same.proofs.objects.+sameness.Given as goal

abbrev pub decreases-is_same_slot : goal.decreases-is_same_slot
decreases-is_same_slot g l = 8 * l.depth + 1

abbrev pub decreases-is_same_content : goal.decreases-is_same_content
decreases-is_same_content g l = 8 * l.depth

abbrev pub decreases-is_same_row : goal.decreases-is_same_row
decreases-is_same_row g l = 8 * l.depth + 3

abbrev pub decreases-are_same_slots : goal.decreases-are_same_slots
decreases-are_same_slots g l = 8 * l.depth + 2

abbrev pub decreases-are_same_rows : goal.decreases-are_same_rows
decreases-are_same_rows g l = 8 * l.depth + 4

abbrev pub invariant-are_same_slots-loop-i : goal.invariant-are_same_slots-loop-i
invariant-are_same_slots-loop-i g l = record {
  same : (ss ts : Trees) → AreIn l.a l.one.start l.one.count ss → AreIn l.b l.two.start l.two.count ts
      → SameSlots ss ts ↔ SameSlots (past l.i ss) (past l.i ts);
  first : (ss : Trees) → AreIn l.a l.one.start l.one.count ss
      → l.first + 20 * weights (past l.i ss) ≤ l.fn.first + 12 * l.i + 20 * weights ss;
  second : (ts : Trees) → AreIn l.b l.two.start l.two.count ts
      → l.second + 20 * weights (past l.i ts) ≤ l.fn.second + 12 * l.i + 20 * weights ts;
}

abbrev pub invariant-are_same_rows-loop-row : goal.invariant-are_same_rows-loop-row
invariant-are_same_rows-loop-row g l = record {
  next : l.next ≡ l.one.start.word + l._row * (l.one.words + l.one.slots);
  beyond : l.beyond ≡ l.two.start.word + l._row * (l.two.words + l.two.slots);
  same : (bs cs : Bodies) → AreRowsIn l.a l.one.start l.count l.one.words l.one.slots bs
      → AreRowsIn l.b l.two.start l.count l.two.words l.two.slots cs
      → SameRows bs cs ↔ SameRows (rows_past l._row bs) (rows_past l._row cs);
  first : (bs : Bodies) → AreRowsIn l.a l.one.start l.count l.one.words l.one.slots bs
      → l.first + 20 * weights_in_rows (rows_past l._row bs)
      ≤ l.fn.first + l._row + 12 * (l._row * (l.one.words + l.one.slots)) + 20 * weights_in_rows bs;
  second : (cs : Bodies) → AreRowsIn l.b l.two.start l.count l.two.words l.two.slots cs
      → l.second + 20 * weights_in_rows (rows_past l._row cs)
      ≤ l.fn.second + l._row + 12 * (l._row * (l.two.words + l.two.slots)) + 20 * weights_in_rows cs;
}
