use Rattle.std.proofs.Common.{◌≡◌, ◌≤◌, ◌<◌, ◌+◌, ◌-◌, take, false}
use Rattle.capn_words.specs.Watched.{inner_of, has_failed}
use Rattle.capn_pack.specs.WholeGroups.{most_group}
use Rattle.capn_commands.specs.Flow.{Consumed, most}
use Rattle.capn_commands.proofs.Unpacked.{FromStart}
use Rattle.capn_commands.proofs.unpack_run.unpack_stream.Given as goal

-- Neither the reader nor the writer has failed. The words of all complete groups that were read so far were written.
abbrev pub invariant-chunks : goal.invariant-chunks
invariant-chunks g l = record {
  reader : has_failed l.reader ≡ false;
  writer : has_failed l.writer ≡ false;
  within : l.taken ≤ most;
  short : l.held < most_group;
  heard : Consumed (FromStart (take l.held l.buffer)) (g.R.Read.remaining (inner_of l.fn.reader))
      (g.R.Read.remaining (inner_of l.reader))
      (g.W.Write.contents (inner_of l.fn.writer)) (g.W.Write.contents (inner_of l.writer)) l.taken;
}

abbrev pub decreases-chunks : goal.decreases-chunks
decreases-chunks g l = (most + 1) - l.taken
