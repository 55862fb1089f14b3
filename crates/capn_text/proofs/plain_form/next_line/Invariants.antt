use Rattle.std.proofs.Common.{◌≡◌, take}
use Rattle.capn_text.specs.Streams.{ended_lines}
use Rattle.capn_text.proofs.plain_form.next_line.Given as goal

abbrev pub invariant-loop-i : goal.invariant-loop-i
invariant-loop-i l = ended_lines (take l.i l.text) ≡ 0
