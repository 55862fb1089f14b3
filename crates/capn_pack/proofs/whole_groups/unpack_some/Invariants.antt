use Rattle.std.proofs.Common.{length, ◌-◌}
use Rattle.capn_pack.proofs.WholeGroupLemmas.{Appended}
use Rattle.capn_pack.proofs.whole_groups.unpack_some.Given as goal

abbrev pub invariant-loop-at : goal.invariant-loop-at
invariant-loop-at g l = Appended l.bytes l.at l.fn.out.items l.out.items l.room l.max_words

abbrev pub decreases-loop-at : goal.decreases-loop-at
decreases-loop-at g l = length l.bytes - l.at
