use Rattle.std.proofs.Common.{◌≡◌, ◌-◌, length, take}
use Rattle.capn_text.specs.inner.Tokens.{many, byte_at}
use Rattle.capn_text.proofs.Loops.{with_front}
use Rattle.capn_text.proofs.tokens.eight_at.Given as goal

abbrev pub invariant-loop-i : goal.invariant-loop-i
invariant-loop-i l = record {
  room : length l.bytes ≡ 8;
  so_far : with_front (take l.i l.bytes) (many byte_at (8 - l.i) l.rest) ≡ many byte_at 8 l.text;
}
