use Rattle.std.proofs.Common.{◌≡◌, ◌++◌, ◌*◌, replicate, string_bytes}
use Rattle.capn_value.proofs.text_lines.indent.Given as goal

abbrev pub invariant-loop-i : goal.invariant-loop-i
invariant-loop-i g l = string_bytes l.out ≡ string_bytes l.initial.out ++ replicate (2 * l._i) 32
