use Rattle.std.proofs.Common.{◌≡◌, ◌++◌, drop, true}
use Rattle.capn_quoted.specs.Escapes.{escapes}
use Rattle.capn_annotate.proofs.Escapes.{is_low}
use Rattle.capn_annotate.proofs.quotation.put_escapes.Given as goal

-- The bytes so far are written. With those from `i` on they are all of them.
abbrev pub invariant-loop-i : goal.invariant-loop-i
invariant-loop-i g l = (is_low (drop l.i l.bytes) ≡ true)
    × (l.line.items ++ escapes (drop l.i l.bytes) ≡ l.initial.line.items ++ escapes l.bytes)
