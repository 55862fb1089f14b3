use Rattle.std.proofs.Common.{◌≡◌, ◌+◌, ◌<◌, ℕ, length}
use Rattle.std.specs.Prelude.{slice_index}
use Rattle.capn_words.specs.declared.pointer.Width.TheVariants as widths
use Rattle.capn_walk.specs.View as seen
use Rattle.capn_show.proofs.lines.word_bits.Given as goal

abbrev pub invariant-loop-i : goal.invariant-loop-i
invariant-loop-i l = record {
  size : length l.digits ≡ 64;
  each : (j : ℕ) → j < l.i → slice_index l.digits j ≡ 48 + seen.digit widths.W1 l.word j;
}
