use Rattle.std.proofs.Common.{◌≡◌, ◌+◌, length, sum, vec_capacity}
use Rattle.capn_stream.specs.Cuts.{ends_from}
use Rattle.capn_stream.specs.FrameRefusal.{entries}
use Rattle.capn_stream.proofs.table.ends_of.Given as goal

-- `ends` has the ends of the segments before `index`, and `end` is where segment `index` begins
abbrev pub invariant-loop-index : goal.invariant-loop-index
invariant-loop-index g l =
    record {
      ends : l.ends.items ≡ ends_from l.from (entries l.index l.sizes);
      number : length l.ends.items ≡ l.index;
      room : vec_capacity l.ends ≡ l.count;
      end : l.end ≡ l.from + sum (entries l.index l.sizes);
    }
