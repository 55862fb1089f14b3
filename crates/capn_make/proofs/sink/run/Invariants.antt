use Rattle.std.proofs.Common.{◌≡◌, ◌<◌, ◌-◌, ◌^◌, false}
use Rattle.capn_words.specs.Watched.{inner_of, has_failed}
use Rattle.capn_make.specs.inner.SinkRun.{Holds}
use Rattle.capn_make.proofs.SinkRuns.{HasTaken}
use Rattle.capn_make.proofs.sink.run.Given as goal

-- Neither the reader nor the writer has failed. The sink took all bytes that were read, and `taken`, their number, is
-- below 2^64.
abbrev pub invariant-pieces : goal.invariant-pieces
invariant-pieces g l = record {
  fine : has_failed l.reader ≡ false;
  kept : has_failed l.writer ≡ false;
  few : l.taken < 2 ^ 64;
  way : HasTaken (Holds g.S.Sink.task g.S.Sink.takes (g.S.Sink.task l.fn.sink) l.sink)
      (g.R.Read.remaining (inner_of l.fn.reader)) (g.R.Read.remaining (inner_of l.reader))
      (g.W.Write.contents (inner_of l.fn.writer)) (g.W.Write.contents (inner_of l.writer)) l.taken;
}

-- The difference of 2^64 and `taken` decreases.
abbrev pub decreases-pieces : goal.decreases-pieces
decreases-pieces g l = 2 ^ 64 - l.taken
