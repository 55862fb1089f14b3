use Rattle.std.proofs.Common.{◌+◌, ◌*◌, ◌≤◌}
use Rattle.capn_words.specs.Message.{segment_at}
use Rattle.capn_same.specs.inner.Runs.{AreEqual}
use Rattle.capn_same.proofs.words.are_equal.Given as goal

abbrev pub invariant-loop-i : goal.invariant-loop-i
invariant-loop-i g l = record {
  equal : AreEqual (segment_at l.a l.at.segment) l.at.word (segment_at l.b l.beside.segment) l.beside.word l.i;
  first : l.first ≤ l.fn.first + 2 * l.i;
  second : l.second ≤ l.fn.second + 2 * l.i;
}
