use Rattle.std.proofs.Common.{◌≡◌, ◌*◌, ◌^◌, ◌≤◌, sum}
use Rattle.capn_stream.specs.FrameRefusal.{entries}
use Rattle.capn_stream.proofs.table.total_of.Given as goal

-- `total` is the sum of the sizes before `index`, and is at most `index * 2 ^ 32`
abbrev pub invariant-loop-index : goal.invariant-loop-index
invariant-loop-index l = record { is : l.total ≡ sum (entries l.index l.sizes); small : l.total ≤ l.index * 2 ^ 32 }
