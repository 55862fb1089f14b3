use Rattle.std.proofs.Common.{◌≡◌, ◌++◌, take, false}
use Rattle.std.specs.Io.KnownBytes.{Appends}
use Rattle.capn_words.specs.Watched.{has_failed, inner_of}
use Rattle.capn_stream.specs.Frames.{segment_bytes}
use Rattle.capn_stream.specs.inner.FrameOutput.{head_text}
use Rattle.capn_stream.proofs.frame_output.write_message.Given as goal

-- the writer has not failed, and has written the table with its padding and the bytes of the segments before `segment`
abbrev pub invariant-loop-segment : goal.invariant-loop-segment
invariant-loop-segment g l = record {
  fine : has_failed l.writer ≡ false;
  written : Appends (g.W.Write.contents (inner_of l.fn.writer)) (g.W.Write.contents (inner_of l.writer))
      (head_text (g.S.Space.message l.space) ++ segment_bytes (take l.segment (g.S.Space.message l.space)));
}
