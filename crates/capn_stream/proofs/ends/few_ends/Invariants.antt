use Rattle.std.proofs.Common.{◌≡◌, length, sum, take}
use Rattle.capn_stream.specs.Cuts.{ends_from}
use Rattle.capn_stream.specs.FrameRefusal.{entries}
use Rattle.capn_stream.proofs.ends.few_ends.Given as goal

-- `ends` begins with the ends of the segments before `index`, and `end` is where segment `index` begins
abbrev pub invariant-loop-index : goal.invariant-loop-index
invariant-loop-index l = record {
  ends : take l.index l.ends ≡ ends_from 0 (entries l.index l.sizes);
  room : length l.ends ≡ 63;
  end : l.end ≡ sum (entries l.index l.sizes);
}
