use Rattle.std.proofs.Common.{◌≡◌, ◌++◌, drop, string_bytes}
use Rattle.hex.specs.Hex.{encode_lower}
use Rattle.capn_value.proofs.text_lines.push_hex.Given as goal

abbrev pub invariant-loop-byte : goal.invariant-loop-byte
invariant-loop-byte g l =
    string_bytes l.out ++ encode_lower (drop l.byte-index l.bytes) ≡ string_bytes l.initial.out ++ encode_lower l.bytes
