use Rattle.std.proofs.Common.{◌≡◌, ◌+◌, ◌-◌, ◌*◌, ◌≤◌, max}
use Rattle.capn_layout.specs.RowWords.{kept_each}
use Rattle.capn_cover.proofs.kept.kept_each.Given as goal

abbrev pub invariant-loop-row : goal.invariant-loop-row
invariant-loop-row g l = record {
  next : l.next ≡ l.start.word + l.row * l.step;
  low : l.kept ≤ l.size;
  rest : max l.kept
      (kept_each (g.S.Space.message l.space) l.start.segment (l.next + l.inset) l.size l.step (l.count - l.row))
      ≡ kept_each (g.S.Space.message l.space) l.start.segment (l.start.word + l.inset) l.size l.step l.count;
}
