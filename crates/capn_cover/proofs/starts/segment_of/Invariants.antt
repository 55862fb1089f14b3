use Rattle.std.proofs.Common.{◌<◌, ◌≤◌, ◌-◌, length, slice_index}
use Rattle.capn_cover.proofs.starts.segment_of.Given as goal

abbrev pub invariant-search : goal.invariant-search
invariant-search g l = record {
  some : l.low < l.high;
  within : l.high ≤ length l.before;
  low : slice_index l.before l.low ≤ l.number;
  high : l.high < length l.before → l.number < slice_index l.before l.high;
}

abbrev pub decreases-search : goal.decreases-search
decreases-search g l = l.high - l.low
