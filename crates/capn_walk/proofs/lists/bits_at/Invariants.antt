use Rattle.std.proofs.Common.{◌≡◌, ◌*◌, drop, length, map, vec_capacity}
use Rattle.std.specs.Int.{from_bool}
use Rattle.capn_walk.specs.ValueAt.{AreElements, words_from}
use Rattle.capn_walk.proofs.lists.bits_at.Given as goal

abbrev pub invariant-loop-i : goal.invariant-loop-i
invariant-loop-i g l = record {
  number : length l.bits.items ≡ 8 * l.i;
  room : vec_capacity l.bits ≡ l.count;
  left : l.bytes ≡ drop l.i l.initial.bytes;
  elements : AreElements 64 1 (words_from l.space l.fn.at.segment l.fn.at.word)
      (map from_bool l.bits.items);
}
