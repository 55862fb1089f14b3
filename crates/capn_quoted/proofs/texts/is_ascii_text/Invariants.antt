use Rattle.std.proofs.Common.{◌≡◌, drop}
use Rattle.capn_quoted.specs.Texts.{is_ascii_text}
use Rattle.capn_quoted.proofs.texts.is_ascii_text.Given as goal

abbrev pub invariant-loop-i : goal.invariant-loop-i
invariant-loop-i l = is_ascii_text l.bytes ≡ is_ascii_text (drop l.i l.bytes)
