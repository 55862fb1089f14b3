use Rattle.std.proofs.Common.{◌≡◌, ◌≤◌, ◌+◌, ◌-◌, length, take, false}
use Rattle.capn_words.specs.Watched.{inner_of, has_failed}
use Rattle.capn_serve.specs.Fold.{fold_until}
use Rattle.capn_serve.specs.Outgoing.{outgoing}
use Rattle.capn_serve.specs.ChunkRun.{HasRoom, IsListening}
use Rattle.capn_serve.specs.PackedChunkRun.{TellsPacked, pending}
use Rattle.capn_serve.proofs.packed_run.serve_slices.Given as goal

-- The loop has served each message that is complete after the first `at` bytes.
abbrev pub invariant-loop-at : goal.invariant-loop-at
invariant-loop-at g l = record {
  fine : has_failed l.writer ≡ false;
  held : l.packed.unpacker.failed ≡ false;
  listening : IsListening (fold_until g.S.Service.serves g.S.Service.refuses g.S.Service.done l.most) l.packed.framer;
  room : HasRoom l.run.at (length l.packed.framer.rest + l.packed.left);
  going : g.S.Service.done l.run.service l.run.at ≡ false;
  within : l.at ≤ length l.bytes;
  told : TellsPacked (fold_until g.S.Service.serves g.S.Service.refuses g.S.Service.done l.most) l.fn.run
      (pending l.fn.packed.unpacker l.fn.packed.framer l.fn.packed.left) (take l.at l.bytes)
      (pending l.packed.unpacker l.packed.framer l.packed.left)
      (outgoing (g.W.Write.contents (inner_of l.fn.writer)) l.fn.text.items)
      (outgoing (g.W.Write.contents (inner_of l.writer)) l.text.items) l.run;
}

abbrev pub decreases-loop-at : goal.decreases-loop-at
decreases-loop-at g l = length l.bytes - l.at
