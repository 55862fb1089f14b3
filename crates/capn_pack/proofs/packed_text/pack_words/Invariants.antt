use Rattle.std.proofs.Common.{length, ◌-◌, []}
use Rattle.capn_pack.specs.inner.Steps.{PutsRow}
use Rattle.capn_pack.proofs.packed_text.pack_words.Given as goal

abbrev pub invariant-loop-at : goal.invariant-loop-at
invariant-loop-at g l = PutsRow l.bytes 0 l.at [] l.out.items

abbrev pub decreases-loop-at : goal.decreases-loop-at
decreases-loop-at g l = length l.bytes - l.at
