use Rattle.std.proofs.Common.{arith, ap, sym, min}
use Rattle.capn_value.proofs.Cases.{low, no_object}
use Rattle.capn_value.proofs.Heights.{node_high, links_high, rows_high, each_high, highest, row_high, highest_row}
use Rattle.capn_value.proofs.Heights.{still_capped}
use Rattle.capn_value.proofs.Depths.{falls, falls_above, steps_down, in_links, in_rows, in_slots, item_below}
use Rattle.capn_value.proofs.Depths.{row_slots_below}
use Rattle.capn_value.proofs.cost_and_height.+height.Goals as goal

pub capped_height-returns-in_default : goal.capped_height-returns-in_default
capped_height-returns-in_default g t c =
    ap (λ h. min h 257) (sym (low _ c.in_default.not-Nil c.in_default.not-Cap c.in_default.not-Node
    c.in_default.not-Links c.in_default.not-Rows))

pub capped_height-returns-in-Nil : goal.capped_height-returns-in-Nil
capped_height-returns-in-Nil g t c = ap (λ h. min h 257) (sym (no_object _ c.in-Nil.is))

pub capped_height-returns-in-Nil-2 : goal.capped_height-returns-in-Nil-2
capped_height-returns-in-Nil-2 g t c = ap (λ h. min h 257) (sym (no_object _ c.in-Nil.is))

pub capped_height-returns-in-Node : goal.capped_height-returns-in-Node
capped_height-returns-in-Node g t c =
    node_high _ _ c.taller.ensures c.in-Node.is c.as_slice.ensures c.capped_greatest.ensures

pub capped_height-returns-in-Links : goal.capped_height-returns-in-Links
capped_height-returns-in-Links g t c =
    links_high _ _ c.taller-in-Links.ensures c.in-Links.is c.as_slice-in-Links.ensures
    c.capped_greatest-in-Links.ensures

pub capped_height-returns-in-Rows : goal.capped_height-returns-in-Rows
capped_height-returns-in-Rows g t c =
    rows_high _ _ c.taller-in-Rows.ensures c.in-Rows.is c.as_slice-in-Rows.ensures c.capped_greatest_in_rows.ensures

pub capped_greatest-loop-v-preserved : goal.capped_greatest-loop-v-preserved
capped_greatest-loop-v-preserved g t c = record {
  capped = still_capped _ _ _ _ _ c.loop-v.invariant.capped c.capped_height.ensures c.max-most.ensures;
  so_far = each_high _ _ _ c.args.items.now _ c.loop-v.invariant.so_far c.v-item.result (omega arith) c.v-item.is
      c.capped_height.ensures c.max-most.ensures;
}

pub capped_greatest-returns : goal.capped_greatest-returns
capped_greatest-returns g t c =
    highest _ _ _ c.args.items.now _ c.loop-v.invariant.so_far c.loop-v.invariant.capped (omega arith)

pub capped_greatest_in_rows-loop-body-preserved : goal.capped_greatest_in_rows-loop-body-preserved
capped_greatest_in_rows-loop-body-preserved g t c = record {
  capped = still_capped _ _ _ _ _ c.loop-body.invariant.capped c.capped_greatest.ensures c.max-most.ensures;
  so_far = row_high _ _ _ c.args.bodies.now _ c.loop-body.invariant.so_far c.body-item.result (omega arith)
      c.body-item.is c.as_slice.ensures c.capped_greatest.ensures c.max-most.ensures;
}

pub capped_greatest_in_rows-returns : goal.capped_greatest_in_rows-returns
capped_greatest_in_rows-returns g t c =
    highest_row _ _ _ c.args.bodies.now _ c.loop-body.invariant.so_far c.loop-body.invariant.capped (omega arith)

pub capped_height-capped_greatest-requires : goal.capped_height-capped_greatest-requires
capped_height-capped_greatest-requires g t c κs within =
    (falls_above _ _ _ t c.decreases (in_slots c.args.v.now _ c.in-Node.is c.as_slice.ensures), within)

pub capped_height-capped_greatest-requires-in-Links : goal.capped_height-capped_greatest-requires-in-Links
capped_height-capped_greatest-requires-in-Links g t c κs within =
    (falls_above _ _ _ t c.decreases (in_links c.args.v.now c.in-Links.is c.as_slice-in-Links.ensures), within)

pub capped_height-capped_greatest_in_rows-requires : goal.capped_height-capped_greatest_in_rows-requires
capped_height-capped_greatest_in_rows-requires g t c κs within =
    (falls _ _ _ t c.decreases (in_rows c.args.v.now c.in-Rows.is c.as_slice-in-Rows.ensures), within)

pub capped_greatest-capped_height-requires : goal.capped_greatest-capped_height-requires
capped_greatest-capped_height-requires g t c κs within =
    (steps_down _ _ t c.decreases (item_below c.args.items.now _ c.v-item.result (omega arith) c.v-item.is), within)

pub capped_greatest_in_rows-capped_greatest-requires : goal.capped_greatest_in_rows-capped_greatest-requires
capped_greatest_in_rows-capped_greatest-requires g t c κs within = (
  falls_above _ _ _ t c.decreases
      (row_slots_below c.args.bodies.now _ c.body-item.result (omega arith) c.body-item.is c.as_slice.ensures),
  within,
)
