use Rattle.std.proofs.Common.{◌≡◌, ◌*◌, ℕ, List, length, take}
use Rattle.capn_show.specs.Outgoing.{Adds, outgoing}
use Rattle.hex.specs.Hex.{encode_lower}
use Rattle.capn_words.specs.declared.pointer.Width.TheVariants as widths
use Rattle.capn_show.specs.ReadyPlaces.{AreNumbers}
use Rattle.capn_show.proofs.byte_digits.push_bytes.Given as goal

abbrev pub invariant-loop-i : goal.invariant-loop-i
invariant-loop-i g l = (xs : List ℕ)
    → AreNumbers (g.S.Space.message l.space) l.start.segment l.start.word widths.W8 xs → length xs ≡ l.count
    → Adds (outgoing g.W.Write.contents l.initial.writer l.initial.text.items)
    (outgoing g.W.Write.contents l.writer l.text.items) (encode_lower (take (8 * l.i) xs))
