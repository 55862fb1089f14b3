use Rattle.std.proofs.Common.{length, take, ◌-◌, ◌≤◌, []}
use Rattle.capn_pack.specs.inner.Steps.{TakesRow}
use Rattle.capn_pack.proofs.unpack_block.fill_rest.Given as goal

abbrev pub invariant-loop-at : goal.invariant-loop-at
invariant-loop-at l = TakesRow l.text l.at [] (take l.fill l.block) × (l.fill ≤ l.limit)

abbrev pub decreases-loop-at : goal.decreases-loop-at
decreases-loop-at l = length l.text - l.at
