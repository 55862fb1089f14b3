use Rattle.std.proofs.Common.{◌≡◌, ◌+◌, ◌-◌, ◌*◌, ◌≤◌, max}
use Rattle.capn_layout.specs.RowWords.{kept_each}
use Rattle.capn_layout.proofs.kept.kept_each_counted.Given as goal

abbrev pub invariant-loop-row : goal.invariant-loop-row
invariant-loop-row g l = record {
  next : l.next ≡ l.start.word + l.row * l.step;
  low : l.kept ≤ l.size;
  reads : l.reads ≤ l.fn.reads + l.row + 2 * (l.row * l.size);
  rest : max l.kept
      (kept_each l.space l.start.segment (l.next + l.inset) l.size l.step (l.count - l.row))
      ≡ kept_each l.space l.start.segment (l.start.word + l.inset) l.size l.step l.count;
}
