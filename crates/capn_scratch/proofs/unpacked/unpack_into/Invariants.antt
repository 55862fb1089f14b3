use Rattle.std.proofs.Common.{◌≡◌, ◌≤◌, ◌+◌, ◌*◌, length, take, ◌-◌}
use Rattle.capn_scratch.proofs.Groups.{Unpacked}
use Rattle.capn_scratch.proofs.unpacked.unpack_into.Given as goal

-- The first `l.at` bytes of `l.bytes` are groups, which unpack to the first `l.fill` bytes of `l.out`.
abbrev pub invariant-loop-at : goal.invariant-loop-at
invariant-loop-at g l = record {
  unpacked : Unpacked l.bytes l.at (take l.fill l.out) l.room l.max_words;
  filled : l.fill + 8 * l.room ≡ 8 * l.max_words;
  long : length l.out ≡ length l.fn.out;
  steps : l.steps + 12 * l.room ≤ l.fn.steps + l.at + 12 * l.max_words;
}

abbrev pub decreases-loop-at : goal.decreases-loop-at
decreases-loop-at g l = length l.bytes - l.at
