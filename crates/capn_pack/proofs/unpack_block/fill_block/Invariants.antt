use Rattle.std.proofs.Common.{length, take, ◌+◌, ◌-◌, ◌*◌, ◌≤◌, []}
use Rattle.capn_pack.specs.inner.Steps.{TakesRow}
use Rattle.capn_pack.proofs.unpack_block.fill_block.Given as goal

abbrev pub invariant-loop-steps : goal.invariant-loop-steps
invariant-loop-steps l = TakesRow l.text l.from.at [] (take l.from.fill l.block) × (l.from.fill ≤ l.limit)
    × (l.from.at + 74 * l.steps ≤ length l.text) × (l.from.fill + 64 * l.steps ≤ l.limit)

abbrev pub decreases-loop-steps : goal.decreases-loop-steps
decreases-loop-steps l = length l.text - l.from.at
