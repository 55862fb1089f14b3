use Rattle.std.proofs.Common.{◌≡◌, ◌*◌, drop, length, vec_capacity}
use Rattle.byteorder.specs.Endian.{little_number, IsRead}
use Rattle.capn_walk.proofs.lists.quads_at.Given as goal

abbrev pub invariant-loop-i : goal.invariant-loop-i
invariant-loop-i g l = record {
  number : length l.quads.items ≡ l.i;
  room : vec_capacity l.quads ≡ l.count;
  left : l.bytes ≡ drop (4 * l.i) l.initial.bytes;
  read : IsRead little_number 4 l.initial.bytes l.quads.items;
}
