use Rattle.std.proofs.Common.{◌≡◌, ℕ, ◌+◌, ◌-◌, ◌*◌, ◌≤◌, length, not, nat_eq}
use Rattle.capn_canon.specs.declared.progress.Progress.{Progress}
use Rattle.capn_canon.specs.inner.Due.{Due, DueRows}
use Rattle.capn_canon.specs.inner.InPlace.{IsOpen, Leads, FindsRows}
use Rattle.capn_canon.specs.inner.PassReads.{may_read}
use Rattle.capn_canon.proofs.one_pass.+pass.Given as goal

abbrev pub decreases-check_below : goal.decreases-check_below
decreases-check_below g l = 6 * l.pass.depth

abbrev pub decreases-check_composite : goal.decreases-check_composite
decreases-check_composite g l = 6 * l.pass.depth

abbrev pub decreases-check_first : goal.decreases-check_first
decreases-check_first g l = 6 * l.pass.depth + 5

abbrev pub decreases-check_list : goal.decreases-check_list
decreases-check_list g l = 6 * l.pass.depth + 1

abbrev pub decreases-check_object : goal.decreases-check_object
decreases-check_object g l = 6 * l.pass.depth + 4

abbrev pub decreases-check_rows : goal.decreases-check_rows
decreases-check_rows g l = 6 * l.pass.depth + 4

abbrev pub decreases-check_slot : goal.decreases-check_slot
decreases-check_slot g l = 6 * l.pass.depth + 2

abbrev pub decreases-check_slots : goal.decreases-check_slots
decreases-check_slots g l = 6 * l.pass.depth + 3

abbrev pub decreases-check_struct : goal.decreases-check_struct
decreases-check_struct g l = 6 * l.pass.depth + 1

abbrev pub invariant-check_rows-loop-i : goal.invariant-check_rows-loop-i
invariant-check_rows-loop-i g l = record {
  place : l.row ≡ l.pass.from + l.i * (l.words + l.slots);
  order : l.pass.end ≤ l.progress.next;
  fits : l.progress.next ≤ length l.space;
  few : l.progress.visits ≤ l.progress.next;
  leads : (q : Progress) (low : ℕ)
      → FindsRows l.space l.base (not (nat_eq g.row.DEEP 0)) l.words l.slots l.row (l.count - l.i) l.progress.next
      l.pass.depth l.progress.left l.progress.visits l.least q low
      → FindsRows l.space l.base (not (nat_eq g.row.DEEP 0)) l.words l.slots l.pass.from l.count l.pass.next
      l.pass.depth l.pass.left l.pass.visits l.initial.least q low;
  due : DueRows l.space l.base l.words l.slots l.pass.from l.count l.pass.next l.pass.depth l.pass.left
      → DueRows l.space l.base l.words l.slots l.row (l.count - l.i) l.progress.next l.pass.depth l.progress.left;
  reads : l.reads + 10 * l.progress.left + 8 * ((l.count - l.i) * l.slots)
      ≤ l.fn.reads + 10 * l.pass.left + 8 * (l.count * l.slots);
}

abbrev pub invariant-check_slots-loop-left : goal.invariant-check_slots-loop-left
invariant-check_slots-loop-left g l = record {
  later : l.fn.pass.from ≤ l.left.from;
  low : l.left.depth ≤ l.fn.pass.depth;
  opened : IsOpen l.space l.left;
  leads : Leads l.space l.base (not (nat_eq g.row.DEEP 0)) l.fn.pass l.initial.least l.left l.least;
  due : Due l.space l.base l.fn.pass → Due l.space l.base l.left;
  reads : l.reads + may_read l.left ≤ l.fn.reads + may_read l.fn.pass;
}

abbrev pub decreases-check_slots-loop-left : goal.decreases-check_slots-loop-left
decreases-check_slots-loop-left g l = length l.space - l.left.from
