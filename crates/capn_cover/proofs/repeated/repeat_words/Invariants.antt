use Rattle.std.proofs.Common.{◌≡◌}
use Rattle.capn_cover.specs.Covers.{run}
use Rattle.capn_cover.specs.inner.Laid.{laid, IsFollowed}
use Rattle.capn_cover.proofs.repeated.repeat_words.Given as goal

abbrev pub invariant-loop-i : goal.invariant-loop-i
invariant-loop-i g l = record {
  cells : l.cells ≡ laid (g.S.Space.message l.space) (run l.slot l.role l.first l.i) l.initial.cells;
  followed : IsFollowed l.slot l.cells;
}
