use Rattle.std.proofs.Common.{◌≡◌, ◌+◌, ◌*◌, ◌^◌, ◌≤◌, sum}
use Rattle.capn_stream.specs.FrameRefusal.{entries}
use Rattle.capn_scratch.proofs.table.total_of.Given as goal

-- `l.total` is the sum of the sizes before `l.index`, and is at most `l.index * 2 ^ 32`.
abbrev pub invariant-loop-index : goal.invariant-loop-index
invariant-loop-index g l = record {
  is : l.total ≡ sum (entries l.index l.sizes);
  small : l.total ≤ l.index * 2 ^ 32;
  steps : l.steps ≡ l.fn.steps + 2 * l.index;
}
