use Rattle.std.proofs.Common.{◌≡◌, ◌+◌, ◌-◌, ◌*◌, ◌++◌, drop, map, length}
use Rattle.std.specs.Int.{from_bool}
use Rattle.capn_words.specs.Message.{words_in}
use Rattle.capn_target.specs.Target.{words_for}
use Rattle.capn_layout.specs.Layout.{packed}
use Rattle.capn_layout.specs.inner.Draft.{IsKept}
use Rattle.capn_layout.proofs.bits.extend_bits.Given as goal

abbrev pub invariant-loop-i : goal.invariant-loop-i
invariant-loop-i l = record {
  rest : words_in l.end l.out ++ packed 64 1 (l.words - l.i) (map from_bool (drop (64 * l.i) l.bits))
      ≡ words_in l.len l.fn.out ++ packed 64 1 (words_for (length l.bits)) (map from_bool l.bits);
  ends : l.end ≡ l.len + l.i;
  same : IsKept l.end l.fn.out l.out;
}
