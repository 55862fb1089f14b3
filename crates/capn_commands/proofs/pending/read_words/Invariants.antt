use Rattle.std.proofs.Common.{◌^◌, ◌+◌, ◌-◌, take}
use Rattle.capn_words.specs.Watched.{inner_of, has_failed}
use Rattle.capn_commands.proofs.Given.{Unpacked}
use Rattle.capn_commands.proofs.pending.read_words.Given as goal

abbrev pub invariant-pieces : goal.invariant-pieces
invariant-pieces g l = Unpacked (g.R.Read.remaining (inner_of l.fn.reader)) (g.R.Read.remaining (inner_of l.reader))
    (has_failed l.reader) l.most l.taken l.words.items l.pending.len (take l.pending.len l.pending.text) l.pending.at
    l.pending.left l.pending.is_long

-- The number of bytes that may still be read decreases.
abbrev pub decreases-pieces : goal.decreases-pieces
decreases-pieces g l = (2 ^ 32 + 1) - l.taken
