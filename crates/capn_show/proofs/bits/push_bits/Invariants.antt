use Rattle.std.proofs.Common.{◌≡◌, ◌*◌, Bool, List, length, take, map}
use Rattle.capn_show.specs.Outgoing.{Adds, outgoing}
use Rattle.std.specs.Int.{from_bool}
use Rattle.capn_value.specs.Text.{digits_of}
use Rattle.capn_words.specs.declared.pointer.Width.TheVariants as widths
use Rattle.capn_show.specs.ReadyPlaces.{AreNumbers}
use Rattle.capn_show.proofs.bits.push_bits.Given as goal

abbrev pub invariant-loop-i : goal.invariant-loop-i
invariant-loop-i g l = (xs : List Bool)
    → AreNumbers (g.S.Space.message l.space) l.start.segment l.start.word widths.W1
    (map from_bool xs) → length xs ≡ l.count
    → Adds (outgoing g.W.Write.contents l.initial.writer l.initial.text.items)
    (outgoing g.W.Write.contents l.writer l.text.items) (digits_of (take (64 * l.i) xs))
