use Rattle.std.proofs.Common.{◌≡◌, ◌≤◌, ◌-◌}
use Rattle.capn_cover.specs.Covers.{run}
use Rattle.capn_cover.specs.inner.Knows.{Knows}
use Rattle.capn_cover.specs.inner.Laid.{laid, IsFollowed}
use Rattle.capn_cover.proofs.word_runs.cover_words.Given as goal

abbrev pub invariant-words : goal.invariant-words
invariant-words g l = record {
  within : l.done ≤ l.count;
  cells : l.cells ≡ laid (g.S.Space.message l.space) (run l.slot l.role l.first l.done) l.initial.cells;
  followed : IsFollowed l.slot l.cells;
  known : Knows (g.S.Space.message l.space) l.slot l.role l.known;
}

abbrev pub decreases-words : goal.decreases-words
decreases-words g l = l.count - l.done
