use Rattle.std.proofs.Common.{◌≡◌, length, take}
use Rattle.std.specs.List.{sum_by}
use Rattle.capn_words.proofs.message_size.total_words.Given as goal

-- `total` is the number of words of the segments before `segment`
abbrev pub invariant-loop-segment : goal.invariant-loop-segment
invariant-loop-segment g l = l.total ≡ sum_by length (take l.segment (g.S.Space.message l.space))
