use Rattle.std.proofs.Common.{◌≡◌, ◌+◌, ◌++◌, length, map, vec_capacity}
use Rattle.std.specs.Int.{from_bool}
use Rattle.capn_walk.proofs.shared.Elements.{first_bits}
use Rattle.capn_walk.proofs.lists.push_bits.Given as goal

abbrev pub invariant-loop-place : goal.invariant-loop-place
invariant-loop-place g l = record {
  number : length l.bits.items ≡ length l.initial.bits.items + l.place;
  room : vec_capacity l.bits ≡ vec_capacity l.initial.bits;
  items : map from_bool l.bits.items ≡ map from_bool l.initial.bits.items ++ first_bits l.place l.fn.byte;
}
