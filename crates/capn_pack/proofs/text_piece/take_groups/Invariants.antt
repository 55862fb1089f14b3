use Rattle.std.proofs.Common.{length, ◌-◌}
use Rattle.capn_pack.specs.inner.Steps.{TakesRow}
use Rattle.capn_pack.proofs.text_piece.take_groups.Given as goal

abbrev pub invariant-loop-at : goal.invariant-loop-at
invariant-loop-at g l = TakesRow l.bytes l.at l.fn.out.items l.out.items

abbrev pub decreases-loop-at : goal.decreases-loop-at
decreases-loop-at g l = length l.bytes - l.at
