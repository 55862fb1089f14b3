use Rattle.std.proofs.Common.{◌≡◌, drop}
use Rattle.capn_quoted.specs.Texts.{has_control}
use Rattle.capn_quoted.proofs.texts.has_control.Given as goal

abbrev pub invariant-loop-i : goal.invariant-loop-i
invariant-loop-i l = has_control l.bytes ≡ has_control (drop l.i l.bytes)
