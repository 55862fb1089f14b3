use Rattle.std.proofs.Common.{◌≡◌, ◌-◌, ◌^◌, ◌<◌, drop, map}
use Rattle.std.specs.Int.{from_bool}
use Rattle.capn_layout.specs.Layout.{number}
use Rattle.capn_layout.proofs.bits.word_of_bits.Given as goal

abbrev pub invariant-loop-i : goal.invariant-loop-i
invariant-loop-i l = record {
  rest : l.word ≡ number 2 (map from_bool (drop (l.len - l.i) l.bits));
  small : l.word < 2 ^ l.i;
}
