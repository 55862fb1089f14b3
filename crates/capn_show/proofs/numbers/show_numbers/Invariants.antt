use Rattle.std.proofs.Common.{◌≡◌, ◌/◌, ℕ, List, length, take}
use Rattle.capn_walk.specs.View as seen
use Rattle.capn_show.specs.declared.piece.Piece.TheVariants as pieces
use Rattle.capn_show.specs.Outgoing.{Adds, outgoing}
use Rattle.capn_show.specs.ReadyPlaces.{AreNumbers}
use Rattle.capn_show.proofs.ItemTexts.{texts}
use Rattle.capn_show.proofs.EmittedItems.{number_item}
use Rattle.capn_show.proofs.numbers.show_numbers.Given as goal

abbrev pub invariant-loop-i : goal.invariant-loop-i
invariant-loop-i g l = (xs : List ℕ)
    → AreNumbers (g.S.Space.message l.space) l.start.segment l.start.word l.width xs → length xs ≡ l.count
    → Adds (outgoing g.W.Write.contents l.initial.writer l.initial.text.items)
    (outgoing g.W.Write.contents l.writer l.text.items)
    (texts (number_item (g.E.Emitter.rule l.emitter) (8 / seen.per_word l.width)
    (λ x. (g.E.Emitter.rule l.emitter).piece l.level (pieces.Number l.width x))
    ((g.E.Emitter.rule l.emitter).piece l.level pieces.EndItems) (g.E.Emitter.path l.emitter)
    ((g.E.Emitter.rule l.emitter).lies (g.S.Space.message l.space) l.start)) 0 (take l.i xs))
