use Rattle.std.proofs.Common.{◌^◌, ◌+◌, ◌-◌}
use Rattle.capn_words.specs.Watched.{inner_of, has_failed}
use Rattle.capn_serve.proofs.WholeRead.{Keeps}
use Rattle.capn_serve.proofs.whole_input.read_all.Given as goal

abbrev pub invariant-chunks : goal.invariant-chunks
invariant-chunks g l = Keeps (g.R.Read.remaining (inner_of l.fn.reader)) (g.R.Read.remaining (inner_of l.reader))
    (has_failed l.reader) l.most l.len l.bytes.items

-- The number of bytes that may still be read decreases.
abbrev pub decreases-chunks : goal.decreases-chunks
decreases-chunks g l = (2 ^ 32 + 1) - l.len
