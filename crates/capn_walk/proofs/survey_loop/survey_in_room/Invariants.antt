use Rattle.std.proofs.Common.{◌≡◌, ◌+◌, ◌-◌, ◌*◌, ◌≤◌, length, not, nat_eq, IsTrue}
use Rattle.capn_words.specs.Message.{segment_at}
use Rattle.capn_walk.specs.Visits.{visits_of}
use Rattle.capn_walk.specs.inner.SlotsLeft.{places_of, owed}
use Rattle.capn_walk.specs.inner.Reach.{reach_of}
use Rattle.capn_walk.proofs.UnderWay.{Surveys, coming}
use Rattle.capn_walk.proofs.DeepVisits.{IsDeep}
use Rattle.capn_walk.proofs.survey_loop.survey_in_room.Given as goal

abbrev pub decreases-slots : goal.decreases-slots
decreases-slots g l =
    3 * length (coming l.space l.base l.depth l.stack.items l.frame) + length l.stack.items + (1 - l.frame.left)

abbrev pub invariant-slots : goal.invariant-slots
invariant-slots g l =
    let m = l.space in
    record {
      surveys : Surveys m l.base l.budget (visits_of m l.base l.limit (places_of l.fn.first)) (owed l.fn.first) l.limit
          l.depth l.stack.items l.frame l.paid l.visits l.capability;
      room : g.row.ROOM ≤ l.stack.capacity;
      size : l.size ≡ length (segment_at m l.frame.segment);
      deep : IsTrue (not (nat_eq g.row.DEEP 0)) → IsDeep m l.base l.limit (reach_of m l.limit (places_of l.fn.first))
          l.least l.depth l.stack.items l.frame;
      least : l.least ≤ l.limit + 1;
      reads : l.reads + 2 * length l.stack.items ≤ l.fn.reads + 14 * l.visits + 1 + (1 - (1 - l.frame.left));
    }
