use Rattle.std.proofs.Common.{◌≡◌, ◌+◌, ◌*◌}
use Rattle.capn_cover.specs.Covers.{rows_run}
use Rattle.capn_cover.specs.inner.Laid.{laid, IsFollowed}
use Rattle.capn_cover.proofs.repeated.repeat_rows.Given as goal

abbrev pub invariant-loop-row : goal.invariant-loop-row
invariant-loop-row g l = record {
  next : l.next ≡ l.first + l.row * (l.words + l.slots);
  cells : l.cells ≡ laid (g.S.Space.message l.space) (rows_run l.slot l.first l.words l.slots l.row) l.initial.cells;
  followed : IsFollowed l.slot l.cells;
}
