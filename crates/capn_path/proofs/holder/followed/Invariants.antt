use Rattle.std.proofs.Common.{◌≡◌, ℕ, ◌≤◌, length}
use Rattle.capn_words.specs.Message.{IsPlace}
use Rattle.capn_path.specs.inner.Followed.{follow}
use Rattle.capn_path.proofs.holder.followed.Given as goal

abbrev pub invariant-loop-rest : goal.invariant-loop-rest
invariant-loop-rest g l = record {
  place : IsPlace (g.S.Space.message l.space) l.spot.place;
  steps : ℕ;
  enough : length l.rest ≤ steps;
  same : follow (g.S.Space.message l.space) steps l.spot l.rest
      ≡ follow (g.S.Space.message l.space) (length l.path) l.fn.from l.path;
}

abbrev pub decreases-loop-rest : goal.decreases-loop-rest
decreases-loop-rest g l = length l.rest
