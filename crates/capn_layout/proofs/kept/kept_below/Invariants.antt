use Rattle.std.proofs.Common.{◌+◌, ◌*◌, ◌≤◌}
use Rattle.capn_words.specs.Message.{segment_at}
use Rattle.capn_layout.proofs.shared.Cut.{AreZeros}
use Rattle.capn_layout.proofs.kept.kept_below.Given as goal

abbrev pub invariant-loop-kept : goal.invariant-loop-kept
invariant-loop-kept g l = record {
  low : l.least ≤ l.kept;
  high : l.kept ≤ l.count;
  reads : l.reads + 2 * l.kept ≤ l.fn.reads + 2 * l.count;
  zeros : AreZeros (segment_at l.space l.at.segment) l.at.word l.count l.kept;
}

abbrev pub decreases-loop-kept : goal.decreases-loop-kept
decreases-loop-kept g l = l.kept
