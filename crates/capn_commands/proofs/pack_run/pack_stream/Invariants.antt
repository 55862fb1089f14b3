use Rattle.std.proofs.Common.{◌≡◌, ◌≤◌, ◌+◌, ◌-◌, length, false}
use Rattle.capn_words.specs.Watched.{inner_of, has_failed}
use Rattle.capn_commands.specs.Flow.{Consumed, most}
use Rattle.capn_commands.proofs.Packed.{Holds}
use Rattle.capn_commands.proofs.pack_run.pack_stream.Given as goal

-- Neither the reader nor the writer has failed. The settled text of the bytes read so far was written.
abbrev pub invariant-chunks : goal.invariant-chunks
invariant-chunks g l = record {
  reader : has_failed l.reader ≡ false;
  writer : has_failed l.writer ≡ false;
  within : l.taken ≤ most;
  few : length l.held.items ≤ l.taken;
  heard : Consumed (Holds l.held.items) (g.R.Read.remaining (inner_of l.fn.reader))
      (g.R.Read.remaining (inner_of l.reader))
      (g.W.Write.contents (inner_of l.fn.writer)) (g.W.Write.contents (inner_of l.writer)) l.taken;
}

abbrev pub decreases-chunks : goal.decreases-chunks
decreases-chunks g l = (most + 1) - l.taken
