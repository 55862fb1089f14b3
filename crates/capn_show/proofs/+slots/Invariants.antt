use Rattle.std.proofs.Common.{◌≡◌, ℕ, ◌+◌, ◌*◌, take}
use Rattle.capn_value.specs.Tree.{Trees, Bodies, count, count_rows}
use Rattle.capn_show.specs.EmittedPlaces.{Keeps}
use Rattle.capn_show.specs.Outgoing.{Adds, outgoing}
use Rattle.capn_show.specs.ReadyPlaces.{AreSlots, AreRowsAt, struct_at}
use Rattle.capn_show.proofs.ItemTexts.{texts}
use Rattle.capn_show.proofs.EmittedItems.{listed, rows_listed, slot_item, row_item}
use Rattle.capn_show.proofs.+slots.Given as goal

abbrev pub decreases-slots::show_found : goal.decreases-slots::show_found
decreases-slots::show_found g l = 7 * l.depth

abbrev pub decreases-slots::show_slot : goal.decreases-slots::show_slot
decreases-slots::show_slot g l = 7 * l.depth + 1

abbrev pub decreases-rows::show_below : goal.decreases-rows::show_below
decreases-rows::show_below g l = 7 * l.depth + 2

abbrev pub decreases-rows::show_slots : goal.decreases-rows::show_slots
decreases-rows::show_slots g l = 7 * l.depth + 3

abbrev pub decreases-slots::show_body : goal.decreases-slots::show_body
decreases-slots::show_body g l = 7 * l.depth + 4

abbrev pub decreases-rows::show_row : goal.decreases-rows::show_row
decreases-rows::show_row g l = 7 * l.depth + 5

abbrev pub decreases-rows::show_rows : goal.decreases-rows::show_rows
decreases-rows::show_rows g l = 7 * l.depth + 6

abbrev pub invariant-rows::show_slots-loop-i : goal.invariant-rows::show_slots-loop-i
invariant-rows::show_slots-loop-i g l = record {
  kept : Keeps g.E.Emitter.rule g.E.Emitter.path g.E.Emitter.is_of l.initial.emitter l.emitter;
  rest : (ts : Trees) → AreSlots (g.S.Space.message l.space) l.first.segment l.first.word ts → count ts ≡ l.count
      → Adds (outgoing g.W.Write.contents l.initial.writer l.initial.text.items)
      (outgoing g.W.Write.contents l.writer l.text.items)
      (texts (slot_item (g.S.Space.message l.space) (g.E.Emitter.rule l.initial.emitter) l.level
      (g.E.Emitter.path l.initial.emitter)
      (λ (k : ℕ). record { segment = l.first.segment; word = l.first.word + k })) 0 (take l.i (listed ts)));
}

abbrev pub invariant-rows::show_rows-loop-row : goal.invariant-rows::show_rows-loop-row
invariant-rows::show_rows-loop-row g l = record {
  next : l.next ≡ l.first.word + l.row * (l.size.words + l.size.slots);
  kept : Keeps g.E.Emitter.rule g.E.Emitter.path g.E.Emitter.is_of l.initial.emitter l.emitter;
  rest : (bs : Bodies)
      → AreRowsAt (g.S.Space.message l.space) l.first.segment l.first.word l.size.words l.size.slots bs
      → count_rows bs ≡ l.count → Adds (outgoing g.W.Write.contents l.initial.writer l.initial.text.items)
      (outgoing g.W.Write.contents l.writer l.text.items)
      (texts (row_item (g.S.Space.message l.space) (g.E.Emitter.rule l.initial.emitter) l.level
      (g.E.Emitter.path l.initial.emitter)
      (λ (k : ℕ). struct_at l.first.segment (l.first.word + k * (l.size.words + l.size.slots)) l.size.words
      l.size.slots)) 0 (take l.row (rows_listed bs)));
}
