use Rattle.std.proofs.Common.{◌≡◌, ◌+◌, ◌*◌, ◌≤◌, ◌++◌, drop, length, take}
use Rattle.std.specs.List.{sum_by}
use Rattle.capn_c.specs.Entries.{starts_from}
use Rattle.capn_c.proofs.entries.put_starts.Given as goal

-- The starts of the first `segment` segments are written, and `total` is the number of words of these segments. Two
-- reads and turns are counted for each of them.
abbrev pub invariant-loop-segment : goal.invariant-loop-segment
invariant-loop-segment g l = record {
  starts : l.starts ≡ take l.segment (starts_from 0 l.space) ++ drop l.segment l.fn.starts;
  words : l.total ≡ sum_by length (take l.segment l.space);
  reads : l.reads ≤ l.fn.reads + 2 * l.segment;
}
