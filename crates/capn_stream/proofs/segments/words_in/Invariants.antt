use Rattle.std.proofs.Common.{◌≡◌, ◌-◌, ◌^◌, length, take, min, All}
use Rattle.std.specs.List.{sum_by}
use Rattle.capn_stream.specs.Segments.{IsWord}
use Rattle.capn_stream.proofs.segments.words_in.Given as goal

-- `words` is the number of words of the first `segment-index` segments, capped at 2^64 - 1
abbrev pub invariant-loop-segment : goal.invariant-loop-segment
invariant-loop-segment l =
    (l.words ≡ min (sum_by (λ segment. length segment.now) (take l.segment-index l.segments)) (2 ^ 64 - 1))
    × All (λ segment. All IsWord segment.now) (take l.segment-index l.segments)
