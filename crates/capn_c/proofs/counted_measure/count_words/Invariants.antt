use Rattle.std.proofs.Common.{◌≡◌, ◌+◌, ◌*◌, ◌≤◌, length, take}
use Rattle.std.specs.List.{sum_by}
use Rattle.capn_c.proofs.counted_measure.count_words.Given as goal

-- `total` is the number of words of the segments before `segment`. Two reads and turns are counted for each of these
-- segments.
abbrev pub invariant-loop-segment : goal.invariant-loop-segment
invariant-loop-segment g l = record {
  words : l.total ≡ sum_by length (take l.segment l.space);
  reads : l.reads ≤ l.fn.reads + 2 * l.segment;
}
