use Rattle.std.proofs.Common.{◌≡◌, Some, None, arith, ap, ◌∙◌}
use Rattle.capn_value.specs.TreeOf.{tree_of, trees_of, rows_of}
use Rattle.capn_value.specs.FirstCap.{first_cap, first_in, first_in_rows}
use Rattle.capn_value.proofs.Cases.{no_cap, node_seen, links_seen, rows_seen, cap_seen}
use Rattle.capn_value.proofs.FirstCaps.{cap_here, cap_later, cap_nowhere, cap_in_row, cap_below, cap_in_no_row}
use Rattle.capn_value.proofs.Depths.{falls, falls_above, steps_down, in_links, in_rows, in_slots, item_below}
use Rattle.capn_value.proofs.Depths.{row_slots_below}
use Rattle.capn_value.proofs.value.+first_cap.Goals as goal

pub first_cap-returns-in-Cap : goal.first_cap-returns-in-Cap
first_cap-returns-in-Cap g t c = cap_seen first_cap _ c.in-Cap.is

pub first_cap-returns-in-Node : goal.first_cap-returns-in-Node
first_cap-returns-in-Node g t c =
    c.first_in.ensures ∙ ap (λ vs. first_in (trees_of vs)) c.as_slice.ensures ∙ node_seen first_cap _ _ c.in-Node.is

pub first_cap-returns-in-Links : goal.first_cap-returns-in-Links
first_cap-returns-in-Links g t c =
    c.first_in-in-Links.ensures ∙ ap (λ vs. first_in (trees_of vs)) c.as_slice-in-Links.ensures
    ∙ links_seen first_cap _ _ c.in-Links.is

pub first_cap-returns-in-Rows : goal.first_cap-returns-in-Rows
first_cap-returns-in-Rows g t c =
    c.first_in_rows.ensures ∙ ap (λ bs. first_in_rows (rows_of bs)) c.as_slice-in-Rows.ensures
    ∙ rows_seen first_cap _ _ c.in-Rows.is

pub first_cap-returns-in_default : goal.first_cap-returns-in_default
first_cap-returns-in_default g t c =
    no_cap _ c.in_default.not-Cap c.in_default.not-Node c.in_default.not-Links c.in_default.not-Rows

pub first_in-returns-in-Some : goal.first_in-returns-in-Some
first_in-returns-in-Some g t c =
    let found : first_cap (tree_of c.v-item.result) ≡ Some c.in-Some.k = cc in
    cap_here c.args.items.now _ c.loop-v.invariant c.v-item.result _ (omega arith) c.v-item.is found

pub first_in-loop-v-preserved : goal.first_in-loop-v-preserved
first_in-loop-v-preserved g t c =
    let none : first_cap (tree_of c.v-item.result) ≡ None = cc in
    cap_later c.args.items.now _ c.loop-v.invariant c.v-item.result (omega arith) c.v-item.is none

pub first_in-returns : goal.first_in-returns
first_in-returns g t c = cap_nowhere c.args.items.now _ c.loop-v.invariant (omega arith)

pub first_in_rows-returns-in-Some : goal.first_in_rows-returns-in-Some
first_in_rows-returns-in-Some g t c =
    let found : first_in (trees_of c.body-item.result.slots) ≡ Some c.in-Some.k = cc in
    cap_in_row c.args.bodies.now _ c.loop-body.invariant c.body-item.result _ (omega arith) c.body-item.is found

pub first_in_rows-loop-body-preserved : goal.first_in_rows-loop-body-preserved
first_in_rows-loop-body-preserved g t c =
    let none : first_in (trees_of c.body-item.result.slots) ≡ None = cc in
    cap_below c.args.bodies.now _ c.loop-body.invariant c.body-item.result (omega arith) c.body-item.is none

pub first_in_rows-returns : goal.first_in_rows-returns
first_in_rows-returns g t c = cap_in_no_row c.args.bodies.now _ c.loop-body.invariant (omega arith)

pub first_cap-first_in-requires : goal.first_cap-first_in-requires
first_cap-first_in-requires g t c κs within =
    (falls_above _ _ _ t c.decreases (in_slots c.args.v.now _ c.in-Node.is c.as_slice.ensures), within)

pub first_cap-first_in-requires-in-Links : goal.first_cap-first_in-requires-in-Links
first_cap-first_in-requires-in-Links g t c κs within =
    (falls_above _ _ _ t c.decreases (in_links c.args.v.now c.in-Links.is c.as_slice-in-Links.ensures), within)

pub first_cap-first_in_rows-requires : goal.first_cap-first_in_rows-requires
first_cap-first_in_rows-requires g t c κs within =
    (falls _ _ _ t c.decreases (in_rows c.args.v.now c.in-Rows.is c.as_slice-in-Rows.ensures), within)

pub first_in-first_cap-requires : goal.first_in-first_cap-requires
first_in-first_cap-requires g t c κs within =
    (steps_down _ _ t c.decreases (item_below c.args.items.now _ c.v-item.result (omega arith) c.v-item.is), within)

pub first_in_rows-first_in-requires : goal.first_in_rows-first_in-requires
first_in_rows-first_in-requires g t c κs within = (
  falls_above _ _ _ t c.decreases
      (row_slots_below c.args.bodies.now _ c.body-item.result (omega arith) c.body-item.is c.as_slice.ensures),
  within,
)
