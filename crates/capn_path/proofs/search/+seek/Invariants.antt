use Rattle.std.proofs.Common.{◌≡◌, ℕ, ◌+◌, ◌*◌, ◌<◌, ◌≤◌, vec_capacity}
use Rattle.capn_walk.specs.Visits.{visits_of, places, row_places}
use Rattle.capn_path.specs.Finds.{IsPassed}
use Rattle.capn_path.specs.inner.Tested.{IsLowered}
use Rattle.capn_path.proofs.search.+seek.Given as goal

abbrev pub decreases-seek_slot : goal.decreases-seek_slot
decreases-seek_slot g l = 4 * l.depth

abbrev pub decreases-seek_slots : goal.decreases-seek_slots
decreases-seek_slots g l = 4 * l.depth + 1

abbrev pub decreases-seek_rows : goal.decreases-seek_rows
decreases-seek_rows g l = 4 * l.depth + 2

abbrev pub decreases-seek_object : goal.decreases-seek_object
decreases-seek_object g l = 4 * l.depth + 3

abbrev pub invariant-seek_slots-loop-i : goal.invariant-seek_slots-loop-i
invariant-seek_slots-loop-i g l = record {
  passed : (base : ℕ) → IsPassed l.space g.G.Aim.finds g.G.Aim.next l.fn.aim
      (visits_of l.space base l.depth (places l.first.segment l.first.word l.i)) l.aim;
  kept : l.path.items ≡ l.fn.path.items;
  grown : vec_capacity l.fn.path ≤ vec_capacity l.path;
  reads : (left : g.row.G.Denot → ℕ) → IsLowered g.G.Aim.finds g.G.Aim.next left
      → l.reads + 10 * left l.aim + l.i ≤ l.fn.reads + 10 * left l.fn.aim;
}

abbrev pub invariant-seek_rows-loop-row : goal.invariant-seek_rows-loop-row
invariant-seek_rows-loop-row g l = record {
  passed : (base : ℕ) → IsPassed l.space g.G.Aim.finds g.G.Aim.next l.fn.aim
      (visits_of l.space base l.depth
      (row_places l.first.segment l.first.word l.words l.slots l.row)) l.aim;
  kept : l.path.items ≡ l.fn.path.items;
  grown : vec_capacity l.fn.path ≤ vec_capacity l.path;
  next : l.next ≡ l.first.word + l.row * (l.words + l.slots);
  reads : 0 < l.slots → (left : g.row.G.Denot → ℕ) → IsLowered g.G.Aim.finds g.G.Aim.next left
      → l.reads + 10 * left l.aim ≤ l.fn.reads + 10 * left l.fn.aim;
}
