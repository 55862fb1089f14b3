use Rattle.std.proofs.Common.{◌≡◌, drop}
use Rattle.capn_quoted.specs.Hidden.{hexadecimal, without_zeros}
use Rattle.capn_quoted.proofs.hidden.hexadecimal.Given as goal

abbrev pub invariant-loop-start : goal.invariant-loop-start
invariant-loop-start l = without_zeros (drop l.start l.digits) ≡ hexadecimal l.n
