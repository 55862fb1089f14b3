use Rattle.std.proofs.Common.{length, ◌-◌}
use Rattle.capn_pack.proofs.RowLemmas.{Unpacked}
use Rattle.capn_pack.proofs.unpacked_words.unpack_groups.Given as goal

abbrev pub invariant-loop-at : goal.invariant-loop-at
invariant-loop-at g l = Unpacked l.bytes l.at l.out.items l.room l.max_words

abbrev pub decreases-loop-at : goal.decreases-loop-at
decreases-loop-at g l = length l.bytes - l.at
