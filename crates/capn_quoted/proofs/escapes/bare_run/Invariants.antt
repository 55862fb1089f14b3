use Rattle.std.proofs.Common.{◌≡◌, ◌≤◌, ◌++◌, drop, take}
use Rattle.capn_quoted.specs.Escapes.{escapes}
use Rattle.capn_quoted.proofs.escapes.bare_run.Given as goal

abbrev pub invariant-loop-i : goal.invariant-loop-i
invariant-loop-i l = (escapes l.bytes ≡ take l.i l.bytes ++ escapes (drop l.i l.bytes)) × (l.i ≤ 4096)
