use Rattle.std.proofs.Common.{◌≡◌, length}
use Rattle.capn_text.specs.Streams.{end_line}
use Rattle.capn_make.specs.inner.RunParts.{begins_with}
use Rattle.capn_make.proofs.end_line.begins_with_end.Given as goal

abbrev pub invariant-loop-left : goal.invariant-loop-left
invariant-loop-left l = begins_with l.left l.rest ≡ begins_with end_line l.bytes

abbrev pub decreases-loop-left : goal.decreases-loop-left
decreases-loop-left l = length l.left
