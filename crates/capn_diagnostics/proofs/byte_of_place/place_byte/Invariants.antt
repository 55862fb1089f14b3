use Rattle.std.proofs.Common.{◌≡◌, length, take}
use Rattle.std.specs.List.{sum_by}
use Rattle.capn_diagnostics.proofs.byte_of_place.place_byte.Given as goal

-- `before` is the number of words of the first `segment` segments.
abbrev pub invariant-loop-segment : goal.invariant-loop-segment
invariant-loop-segment g l = l.before ≡ sum_by length (take l.segment (g.S.Space.message l.space))
