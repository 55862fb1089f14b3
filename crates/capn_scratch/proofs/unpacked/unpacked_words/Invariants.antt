use Rattle.std.proofs.Common.{ℕ, List, length, ◌+◌, ◌-◌, ◌*◌, ◌≤◌}
use Rattle.capn_scratch.proofs.Groups.{Unpacked}
use Rattle.capn_scratch.proofs.unpacked.unpacked_words.Given as goal

-- The first `l.at` bytes of `l.bytes` are groups, which unpack to some `out`.
abbrev pub invariant-loop-at : goal.invariant-loop-at
invariant-loop-at g l = record {
  unpacked : (out : List ℕ) × Unpacked l.bytes l.at out l.room l.max_words;
  steps : l.steps ≤ l.fn.steps + 2 * l.at;
}

abbrev pub decreases-loop-at : goal.decreases-loop-at
decreases-loop-at g l = length l.bytes - l.at
