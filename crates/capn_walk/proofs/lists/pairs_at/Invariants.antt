use Rattle.std.proofs.Common.{◌≡◌, ◌*◌, drop, length, vec_capacity}
use Rattle.byteorder.specs.Endian.{little_number, IsRead}
use Rattle.capn_walk.proofs.lists.pairs_at.Given as goal

abbrev pub invariant-loop-i : goal.invariant-loop-i
invariant-loop-i g l = record {
  number : length l.pairs.items ≡ l.i;
  room : vec_capacity l.pairs ≡ l.count;
  left : l.bytes ≡ drop (2 * l.i) l.initial.bytes;
  read : IsRead little_number 2 l.initial.bytes l.pairs.items;
}
