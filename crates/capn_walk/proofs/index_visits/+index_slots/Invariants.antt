use Rattle.std.proofs.Common.{◌≡◌, ◌+◌, ◌-◌, ◌*◌, ◌≤◌, length, drop}
use Rattle.capn_walk.specs.Visits.{visits_of}
use Rattle.capn_walk.specs.inner.SlotsLeft.{places_of, owed, Lies}
use Rattle.capn_walk.specs.Index.{entries_of}
use Rattle.capn_walk.specs.inner.IndexRoom.{laid}
use Rattle.capn_walk.proofs.FilledRoom.{IsOnWay}
use Rattle.capn_walk.proofs.index_visits.+index_slots.Given as goal

abbrev pub decreases-index_found : goal.decreases-index_found
decreases-index_found g l = 5 * l.depth

abbrev pub decreases-index_near : goal.decreases-index_near
decreases-index_near g l = 5 * l.depth + 1

abbrev pub decreases-index_elsewhere : goal.decreases-index_elsewhere
decreases-index_elsewhere g l = 5 * l.depth + 2

abbrev pub decreases-index_slot : goal.decreases-index_slot
decreases-index_slot g l = 5 * l.depth + 3

abbrev pub decreases-index_frame : goal.decreases-index_frame
decreases-index_frame g l = 5 * l.depth + 4

abbrev pub decreases-index_frame-slots : goal.decreases-index_frame-slots
decreases-index_frame-slots g l = 2 * owed l.frame + (1 - l.frame.left)

abbrev pub invariant-index_frame-slots : goal.invariant-index_frame-slots
invariant-index_frame-slots g l =
    let m = l.space in
    let f = g.F.EntryForm.written l.form in
    record {
      way : IsOnWay l.left (visits_of m l.base l.depth (places_of l.fn.slots)) (owed l.fn.slots)
          (visits_of m l.base l.depth (places_of l.frame)) (owed l.frame) l.paid l.visits;
      lies : Lies m l.frame;
      segment : l.frame.segment ≡ l.fn.slots.segment;
      room : laid f l.first (entries_of m l.depth (places_of l.fn.slots)) l.fn.room
          ≡ laid f (l.first + l.visits) (entries_of m l.depth (places_of l.frame)) l.room;
      count : length (entries_of m l.depth (places_of l.fn.slots))
          ≡ l.visits + length (entries_of m l.depth (places_of l.frame));
      kept : drop (l.first + l.visits) l.room ≡ drop (l.first + l.visits) l.fn.room;
      reads : l.reads ≤ l.fn.reads + 13 * l.visits + (1 - (1 - l.frame.left));
    }
