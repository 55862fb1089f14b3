use Rattle.std.proofs.Common.{take}
use Rattle.capn_cmp.specs.LinesApart.{IsUnbroken}
use Rattle.capn_cmp.proofs.lines_apart.split_line.Given as goal

abbrev pub invariant-loop-at : goal.invariant-loop-at
invariant-loop-at l = IsUnbroken (take l.at l.bytes)
