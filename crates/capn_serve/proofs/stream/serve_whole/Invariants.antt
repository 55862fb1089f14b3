use Rattle.std.proofs.Common.{◌≡◌, ◌≤◌, ◌-◌, [], length, take, false}
use Rattle.capn_words.specs.Watched.{inner_of, has_failed}
use Rattle.capn_serve.specs.Fold.{fold_until}
use Rattle.capn_serve.specs.Outgoing.{outgoing}
use Rattle.capn_serve.specs.ChunkRun.{HasRoom, Tells}
use Rattle.capn_serve.proofs.stream.serve_whole.Given as goal

-- The first `at` bytes are complete messages, and these messages were served.
abbrev pub invariant-loop-at : goal.invariant-loop-at
invariant-loop-at g l = record {
  fine : has_failed l.writer ≡ false;
  within : l.at ≤ length l.bytes;
  room : HasRoom l.run.at (length l.bytes - l.at);
  told : Tells (fold_until g.S.Service.serves g.S.Service.refuses g.S.Service.done l.most) l.fn.run (take l.at l.bytes)
      [] (outgoing (g.W.Write.contents (inner_of l.fn.writer)) l.fn.text.items)
      (outgoing (g.W.Write.contents (inner_of l.writer)) l.text.items) l.run;
}

abbrev pub decreases-loop-at : goal.decreases-loop-at
decreases-loop-at g l = length l.bytes - l.at
