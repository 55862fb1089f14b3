use Rattle.std.proofs.Common.{◌≡◌, ◌≤◌, ◌+◌, ◌-◌, false}
use Rattle.capn_words.specs.Watched.{inner_of, has_failed}
use Rattle.capn_serve.specs.Fold.{fold_until}
use Rattle.capn_serve.proofs.IntakeRuns.{HasTaken}
use Rattle.capn_serve.proofs.intake.serve_pieces.Given as goal

-- Neither the reader nor the writer has failed, the service is not finished, and all bytes read so far were served.
abbrev pub invariant-pieces : goal.invariant-pieces
invariant-pieces g l = record {
  reader : has_failed l.reader ≡ false;
  writer : has_failed l.writer ≡ false;
  going : g.S.Service.done l.run.service l.run.at ≡ false;
  within : l.taken ≤ l.limit;
  way : HasTaken (g.I.Intake.takes _ (fold_until g.S.Service.serves g.S.Service.refuses g.S.Service.done l.most)
      l.fn.intake l.fn.run) l.intake l.run
      (g.R.Read.remaining (inner_of l.fn.reader)) (g.R.Read.remaining (inner_of l.reader))
      (g.W.Write.contents (inner_of l.fn.writer)) (g.W.Write.contents (inner_of l.writer)) l.taken;
}

abbrev pub decreases-pieces : goal.decreases-pieces
decreases-pieces g l = (l.limit + 1) - l.taken
