use Rattle.std.proofs.Common.{◌≡◌, ◌++◌, take}
use Rattle.capn_stream.specs.Frames.{segment_bytes}
use Rattle.capn_stream.proofs.frame_bytes.put_contents.Given as goal

-- `text` is the old text and the bytes of the segments before `segment`
abbrev pub invariant-loop-segment : goal.invariant-loop-segment
invariant-loop-segment g l = l.text.items
    ≡ l.fn.text.items ++ segment_bytes (take l.segment (g.S.Space.message l.space))
