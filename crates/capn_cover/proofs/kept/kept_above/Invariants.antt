use Rattle.std.proofs.Common.{◌≤◌}
use Rattle.capn_words.specs.Message.{segment_at}
use Rattle.capn_layout.proofs.shared.Cut.{AreZeros}
use Rattle.capn_cover.proofs.kept.kept_above.Given as goal

abbrev pub invariant-loop-kept : goal.invariant-loop-kept
invariant-loop-kept g l = record {
  low : l.least ≤ l.kept;
  high : l.kept ≤ l.count;
  zeros : AreZeros (segment_at (g.S.Space.message l.space) l.at.segment) l.at.word l.count l.kept;
}

abbrev pub decreases-loop-kept : goal.decreases-loop-kept
decreases-loop-kept g l = l.kept
