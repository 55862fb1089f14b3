use Rattle.std.proofs.Common.{◌≡◌, ◌+◌, ◌-◌, ◌*◌, ◌++◌, length, take}
use Rattle.std.specs.List.{flat_map}
use Rattle.capn_stream.specs.Frames.{entry}
use Rattle.capn_stream.proofs.frame_output.put_head.Given as goal

-- `head` begins with the count of all segments, and the sizes of the segments before `segment`
abbrev pub invariant-loop-segment : goal.invariant-loop-segment
invariant-loop-segment g l = record {
  so_far : l.at ≡ 4 + 4 * l.segment;
  text : take l.at l.head ≡ entry (length (g.S.Space.message l.space) - 1)
      ++ flat_map (λ ws. entry (length ws)) (take l.segment (g.S.Space.message l.space));
}
