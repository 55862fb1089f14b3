use Rattle.std.proofs.Common.{◌≡◌, ◌++◌, string_bytes}
use Rattle.std.specs.Slice.Iter.{chunks_rest, chunks_size}
use Rattle.capn_value.specs.Text.{digits_of}
use Rattle.capn_value.proofs.text_lines.push_bits.Given as goal

abbrev pub invariant-loop-block : goal.invariant-loop-block
invariant-loop-block g l = record {
  next : (goal.iterator-loop-block g).can_next l.block-iterator;
  ends : (goal.iterator-loop-block g).is_finite l.block-iterator;
  size : chunks_size l.block-iterator ≡ 64;
  written : string_bytes l.out ++ digits_of (chunks_rest l.block-iterator)
      ≡ string_bytes l.initial.out ++ digits_of l.bits;
}
