use Rattle.std.proofs.Common.{◌≡◌, ◌+◌, ◌*◌}
use Rattle.capn_walk.specs.Visits.{places, row_places}
use Rattle.capn_cover.specs.inner.Known.{AreKnownTogether}
use Rattle.capn_cover.specs.inner.Laid.{laid, cover_of}
use Rattle.capn_cover.proofs.cover_visits.+cover_slots.Given as goal

abbrev pub decreases-cover_found : goal.decreases-cover_found
decreases-cover_found g l = 7 * l.depth

abbrev pub decreases-cover_slot : goal.decreases-cover_slot
decreases-cover_slot g l = 7 * l.depth + 1

abbrev pub decreases-cover_pointer : goal.decreases-cover_pointer
decreases-cover_pointer g l = 7 * l.depth + 2

abbrev pub decreases-cover_slots : goal.decreases-cover_slots
decreases-cover_slots g l = 7 * l.depth + 3

abbrev pub decreases-cover_slots_apart : goal.decreases-cover_slots_apart
decreases-cover_slots_apart g l = 7 * l.depth + 4

abbrev pub decreases-cover_row_slots : goal.decreases-cover_row_slots
decreases-cover_row_slots g l = 7 * l.depth + 5

abbrev pub decreases-cover_object_slots : goal.decreases-cover_object_slots
decreases-cover_object_slots g l = 7 * l.depth + 6

abbrev pub invariant-cover_slots-loop-i : goal.invariant-cover_slots-loop-i
invariant-cover_slots-loop-i g l =
    let m = g.S.Space.message l.space in
    record {
      cells : l.cells ≡ laid m (cover_of m l.depth (places l.first.segment l.first.word l.i)) l.initial.cells;
      known : AreKnownTogether m l.cells;
    }

abbrev pub invariant-cover_row_slots-loop-row : goal.invariant-cover_row_slots-loop-row
invariant-cover_row_slots-loop-row g l = record {
  next : l.next ≡ l.first.word + l.row * (l.words + l.slots);
  cells : l.cells ≡ laid (g.S.Space.message l.space) (cover_of (g.S.Space.message l.space) l.depth
      (row_places l.first.segment l.first.word l.words l.slots l.row)) l.initial.cells;
  known : AreKnownTogether (g.S.Space.message l.space) l.cells;
}
