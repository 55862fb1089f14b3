use Rattle.std.proofs.Common.{◌≡◌, ◌+◌, ◌*◌, length, sum, take}
use Rattle.capn_stream.specs.Cuts.{ends_from}
use Rattle.capn_stream.specs.FrameRefusal.{entries}
use Rattle.capn_scratch.specs.inner.Ends.{numbers}
use Rattle.capn_scratch.proofs.ends.put_ends.Given as goal

-- The first `l.index` words of `l.ends` are the ends of the first `l.index` segments, and `l.end` is the sum of the
-- sizes of these segments.
abbrev pub invariant-loop-index : goal.invariant-loop-index
invariant-loop-index g l = record {
  ends : numbers (take l.index l.ends) ≡ ends_from 0 (entries l.index l.sizes);
  room : length l.ends ≡ length l.fn.ends;
  end : l.end ≡ sum (entries l.index l.sizes);
  steps : l.steps ≡ l.fn.steps + 3 * l.index;
}
