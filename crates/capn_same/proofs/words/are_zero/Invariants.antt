use Rattle.std.proofs.Common.{◌+◌, ◌*◌, ◌≤◌}
use Rattle.capn_words.specs.Message.{segment_at}
use Rattle.capn_same.specs.inner.Runs.{AreZeros}
use Rattle.capn_same.proofs.words.are_zero.Given as goal

abbrev pub invariant-loop-i : goal.invariant-loop-i
invariant-loop-i g l = record {
  zeros : AreZeros (segment_at l.space l.at.segment) l.at.word l.i;
  reads : l.reads ≤ l.fn.reads + 2 * l.i;
}
