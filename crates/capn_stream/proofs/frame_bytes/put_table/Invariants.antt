use Rattle.std.proofs.Common.{◌≡◌, ◌-◌, ◌++◌, length, take}
use Rattle.std.specs.List.{flat_map}
use Rattle.capn_stream.specs.Frames.{entry}
use Rattle.capn_stream.proofs.frame_bytes.put_table.Given as goal

-- `text` is the old text, the count of all segments, and the sizes of the segments before `segment`
abbrev pub invariant-loop-segment : goal.invariant-loop-segment
invariant-loop-segment g l =
    l.text.items ≡ l.fn.text.items
    ++ (entry (length (g.S.Space.message l.space) - 1)
    ++ flat_map (λ ws. entry (length ws)) (take l.segment (g.S.Space.message l.space)))
