use Rattle.std.proofs.Common.{◌≡◌, ◌+◌, length}
use Rattle.capn_text.specs.Streams.{ended_lines}
use Rattle.capn_text.proofs.lines.lines_in.Given as goal

abbrev pub invariant-loop-rest : goal.invariant-loop-rest
invariant-loop-rest l = l.lines + ended_lines l.rest ≡ ended_lines l.bytes

abbrev pub decreases-loop-rest : goal.decreases-loop-rest
decreases-loop-rest l = length l.rest
