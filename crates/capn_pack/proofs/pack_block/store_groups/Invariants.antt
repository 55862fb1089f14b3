use Rattle.std.proofs.Common.{length, take, ◌-◌, ◌≤◌, []}
use Rattle.capn_pack.specs.inner.Steps.{PutsRow}
use Rattle.capn_pack.proofs.pack_block.store_groups.Given as goal

abbrev pub invariant-loop-at : goal.invariant-loop-at
invariant-loop-at l = PutsRow l.bytes l.start l.at [] (take l.fill l.block) × (l.fill ≤ length l.block)

abbrev pub decreases-loop-at : goal.decreases-loop-at
decreases-loop-at l = length l.bytes - l.at
