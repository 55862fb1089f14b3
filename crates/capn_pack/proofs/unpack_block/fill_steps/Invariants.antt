use Rattle.std.proofs.Common.{length, take, ◌+◌, ◌*◌, ◌≤◌, []}
use Rattle.capn_pack.specs.inner.Steps.{TakesRow}
use Rattle.capn_pack.proofs.unpack_block.fill_steps.Given as goal

abbrev pub invariant-loop-left : goal.invariant-loop-left
invariant-loop-left l = TakesRow l.text l.at [] (take l.fill l.block) × (l.at + 74 * l.left ≤ length l.text)
    × (l.fill + 64 * l.left ≤ l.fn.from.fill + 64 * l.steps) × (l.fn.from.at + l.steps ≤ l.at + l.left)

abbrev pub decreases-loop-left : goal.decreases-loop-left
decreases-loop-left l = l.left
