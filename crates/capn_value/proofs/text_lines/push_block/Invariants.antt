use Rattle.std.proofs.Common.{◌≡◌, length, take}
use Rattle.capn_value.specs.Text.{digits_of}
use Rattle.capn_value.proofs.text_lines.push_block.Given as goal

abbrev pub invariant-loop-i : goal.invariant-loop-i
invariant-loop-i g l = record {
  room : length l.digits ≡ 64;
  written : take l.i l.digits ≡ digits_of (take l.i l.bits);
}
