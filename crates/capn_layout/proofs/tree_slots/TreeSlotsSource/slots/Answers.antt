use Rattle.std.proofs.Common.{◌∙◌, ap, arith, refl, []}
use Rattle.capn_value.specs.Tree.{count_rows}
use Rattle.capn_value.specs.Views.{count_rows-rows_of}
use Rattle.capn_layout.specs.inner.TreeSlots.{bodies_of}
use Rattle.capn_layout.proofs.writer.TreeItems.{rows-slots, row-slots}
use Rattle.capn_layout.proofs.tree_slots.TreeSlotsSource.slots.Goals as goal

pub offset_bounds-bodies-row : goal.offset_bounds-bodies-row
offset_bounds-bodies-row g c =
    let x = c.requires in
    let e = ap count_rows (x.1.are ∙ ap bodies_of c.in-Bodies.is) in
    let n = count_rows-rows_of c.in-Bodies.bodies.now in
    let l = x.2 in
    omega arith

pub bounds-bodies-row : goal.bounds-bodies-row
bounds-bodies-row g c =
    let x = c.requires in
    let e = ap count_rows (x.1.are ∙ ap bodies_of c.in-Bodies.is) in
    let n = count_rows-rows_of c.in-Bodies.bodies.now in
    let l = x.2 in
    omega arith

pub returns-in-Bodies : goal.returns-in-Bodies
returns-in-Bodies g c bs h k lt =
    rows-slots c.in-Bodies.bodies.now bs c.args.row k c.index-bodies-row.result c.as_slice.result.now
    (h.are ∙ ap bodies_of c.in-Bodies.is) h.sound c.as_slice.ensures lt

pub returns-in-Body : goal.returns-in-Body
returns-in-Body g c bs h k lt =
    row-slots c.in-Body.body.now.words c.in-Body.body.now.slots c.as_slice-in-Body.result.now bs c.args.row k
    (h.are ∙ ap bodies_of c.in-Body.is) h.sound c.as_slice-in-Body.ensures lt

pub returns-in-Slots : goal.returns-in-Slots
returns-in-Slots g c bs h k lt =
    row-slots [] c.in-Slots.slots.now c.in-Slots.slots.now bs c.args.row k (h.are ∙ ap bodies_of c.in-Slots.is) h.sound
    refl lt
