use Rattle.std.proofs.Common.{◌≡◌, arith, ap, ◌∙◌, min, length}
use Rattle.capn_value.specs.Tree.{front, joined_rows}
use Rattle.capn_value.specs.TreeOf.{trees_of, rows_of}
use Rattle.capn_value.specs.inner.CutCopy.{each_anew, rows_anew}
use Rattle.capn_value.proofs.Copies.{plain_anew, node_made, links_made, rows_made as list_made}
use Rattle.capn_value.proofs.Fronts.{anew_front-min, front_made, row_made, rows_made, cut_length, words_made}
use Rattle.capn_value.proofs.Fronts.{slots_made}
use Rattle.capn_value.proofs.Depths.{falls, falls_above, steps_down, in_body, in_links, in_rows, in_node, item_below}
use Rattle.capn_value.proofs.Depths.{row_below}
use Rattle.capn_value.proofs.value_copy.+anew.Goals as goal

pub anew-copy_of_plain-requires : goal.anew-copy_of_plain-requires
anew-copy_of_plain-requires g t c = record {
  no_struct = c.in_default.not-Node;
  no_pointers = c.in_default.not-Links;
  no_rows = c.in_default.not-Rows;
}

pub anew-returns-in_default : goal.anew-returns-in_default
anew-returns-in_default g t c =
    plain_anew c.args.cut _ c.copy_of_plain.result c.in_default.not-Node c.in_default.not-Links c.in_default.not-Rows
    c.copy_of_plain.ensures

pub anew-returns-in_ok-anew_body-in-Node : goal.anew-returns-in_ok-anew_body-in-Node
anew-returns-in_ok-anew_body-in-Node g t c =
    let made = c.in_ok-anew_body-in-Node in
    node_made c.args.cut _ c.in-Node.body made.field-0 c.in-Node.is c.kept_of_body.ensures made.ensures.words
    made.ensures.slots

pub anew-returns-in_ok-anew_front-in-Links : goal.anew-returns-in_ok-anew_front-in-Links
anew-returns-in_ok-anew_front-in-Links g t c =
    let made = c.in_ok-anew_front-in-Links in
    links_made c.args.cut _ c.in-Links.items c.as_slice.result.now made.field-0 c.in-Links.is c.as_slice.ensures
    c.len.ensures made.ensures

pub anew-returns-in_ok-anew_rows-in-Rows : goal.anew-returns-in_ok-anew_rows-in-Rows
anew-returns-in_ok-anew_rows-in-Rows g t c =
    let made = c.in_ok-anew_rows-in-Rows in
    list_made c.args.cut _ c.in-Rows.rows c.as_slice-rows.result.now made.field-0 c.in-Rows.is c.as_slice-rows.ensures
    c.kept_of_rows.ensures made.ensures

pub anew_front-loop-i-init : goal.anew_front-loop-i-init
anew_front-loop-i-init g t c = ap trees_of c.in_ok-out.ensures.ok

pub anew_front-loop-i-preserved : goal.anew_front-loop-i-preserved
anew_front-loop-i-preserved g t c =
    front_made c.args.cut c.loop-i.out c.args.items.now c.loop-i.i c.index-items-i.result c.loop-i.invariant
    (omega (arith, c.min-len.ensures)) c.index-items-i.is c.anew.result c.push_made.new.out c.anew.ensures
    c.in_ok-push_made.ensures.ok

pub anew_front-returns : goal.anew_front-returns
anew_front-returns g t c =
    let reached : c.loop-i.i ≡ min c.args.most (length c.args.items.now) = omega (arith, c.min-len.ensures) in
    c.loop-i.invariant ∙ ap (λ n. front n (each_anew c.args.cut (trees_of c.args.items.now))) reached
    ∙ anew_front-min c.args.cut c.args.items.now c.args.most

pub anew_rows-loop-row-init : goal.anew_rows-loop-row-init
anew_rows-loop-row-init g t c =
    ap (λ o. joined_rows (rows_of o) (rows_anew c.args.kept (rows_of c.args.rows.now))) c.in_ok-out.ensures.ok

pub anew_rows-loop-row-preserved : goal.anew_rows-loop-row-preserved
anew_rows-loop-row-preserved g t c =
    row_made c.args.kept c.loop-row.out c.args.rows.now _ c.loop-row.invariant c.row-item.result c.anew_body.result
    c.push_made.new.out (omega arith) c.row-item.is c.anew_body.ensures.words c.anew_body.ensures.slots
    c.in_ok-push_made.ensures.ok

pub anew_rows-returns : goal.anew_rows-returns
anew_rows-returns g t c =
    rows_made c.args.kept c.loop-row.out c.args.rows.now _ c.loop-row.invariant (omega arith)

pub anew_body-slice_bounds-from_slice-end : goal.anew_body-slice_bounds-from_slice-end
anew_body-slice_bounds-from_slice-end g t c = cut_length _ c.as_slice-all.result.now c.min.ensures

pub anew_body-returns-clause-words : goal.anew_body-returns-clause-words
anew_body-returns-clause-words g t c =
    words_made c.args.kept (length c.as_slice-all.result.now) c.len.result c.unwrap_or-words.ensures
    c.as_slice-all.ensures (ap length c.as_slice-all.ensures) c.min.ensures c.in_ok-words.ensures

pub anew_body-returns-clause-slots : goal.anew_body-returns-clause-slots
anew_body-returns-clause-slots g t c =
    slots_made c.args.kept (length c.as_slice-all.result.now) c.len.result c.unwrap_or-words.ensures c.as_slice.ensures
    c.len.ensures c.is_some.ensures c.in_ok-slots.ensures

pub anew-anew_body-requires : goal.anew-anew_body-requires
anew-anew_body-requires g t c κs within =
    (falls _ _ _ t c.decreases (in_node c.args.v.now _ c.in-Node.is), within)

pub anew-anew_front-requires : goal.anew-anew_front-requires
anew-anew_front-requires g t c κs within =
    (falls_above _ _ _ t c.decreases (in_links c.args.v.now c.in-Links.is c.as_slice.ensures), within)

pub anew-anew_rows-requires : goal.anew-anew_rows-requires
anew-anew_rows-requires g t c κs within =
    (falls_above _ _ _ t c.decreases (in_rows c.args.v.now c.in-Rows.is c.as_slice-rows.ensures), within)

pub anew_body-anew_front-requires : goal.anew_body-anew_front-requires
anew_body-anew_front-requires g t c κs within =
    (falls_above _ _ _ t c.decreases (in_body c.args.body.now c.as_slice.ensures), within)

pub anew_front-anew-requires : goal.anew_front-anew-requires
anew_front-anew-requires g t c κs within = (
  steps_down _ _ t c.decreases
      (item_below c.args.items.now _ c.index-items-i.result (omega (arith, c.min-len.ensures)) c.index-items-i.is),
  within,
)

pub anew_rows-anew_body-requires : goal.anew_rows-anew_body-requires
anew_rows-anew_body-requires g t c κs within =
    (steps_down _ _ t c.decreases (row_below c.args.rows.now _ c.row-item.result (omega arith) c.row-item.is), within)
