use Rattle.std.proofs.Common.{◌∙◌, ap, arith}
use Rattle.capn_value.specs.Trim.{kept_slots, kept_slots_of_rows}
use Rattle.capn_value.specs.TreeOf.{trees_of}
use Rattle.capn_layout.specs.inner.TreeSlots.{bodies_of}
use Rattle.capn_layout.proofs.tree_slots.TreeSlotsSource.kept_slots.Goals as goal

pub returns-in-Bodies-clause-kept : goal.returns-in-Bodies-clause-kept
returns-in-Bodies-clause-kept g c bs h =
    let e = ap kept_slots_of_rows (h.are ∙ ap bodies_of c.in-Bodies.is) in
    let k = c.kept_slots_of_rows.ensures in
    let l = h.slots in
    omega arith

pub returns-in-Slots-clause-kept : goal.returns-in-Slots-clause-kept
returns-in-Slots-clause-kept g c bs h =
    let e = ap kept_slots_of_rows (h.are ∙ ap bodies_of c.in-Slots.is) in
    let k = c.kept_slots-in-Slots.ensures in
    let l = h.slots in
    omega arith

pub returns-in-Body-clause-kept : goal.returns-in-Body-clause-kept
returns-in-Body-clause-kept g c bs h =
    let e = ap kept_slots_of_rows (h.are ∙ ap bodies_of c.in-Body.is) in
    let k = c.kept_slots.ensures ∙ ap (λ x. kept_slots (trees_of x)) c.as_slice.ensures in
    let l = h.slots in
    omega arith
