use Rattle.std.proofs.Common.{◌∙◌, arith}
use Rattle.capn_value.specs.Fits.{is_wide, is_long, is_ragged}
use Rattle.capn_value.proofs.Anywhere.{node_joins, links_join, rows_join, each_joins, each_joined, row_joins}
use Rattle.capn_value.proofs.Anywhere.{rows_joined}
use Rattle.capn_value.proofs.Cases.{alone}
use Rattle.capn_value.proofs.Depths.{falls, falls_above, steps_down, in_links, in_rows, in_slots, item_below}
use Rattle.capn_value.proofs.Depths.{row_slots_below}
use Rattle.capn_value.proofs.flaws.+flaws_of.Goals as goal

pub flaws_of-returns-in_default : goal.flaws_of-returns-in_default
flaws_of-returns-in_default g t c = record {
  wide = c.own_flaws-here.ensures.wide
      ∙ alone is_wide _ c.in_default.not-Node c.in_default.not-Links c.in_default.not-Rows;
  long = c.own_flaws-here.ensures.long
      ∙ alone is_long _ c.in_default.not-Node c.in_default.not-Links c.in_default.not-Rows;
  ragged = c.own_flaws-here.ensures.ragged
      ∙ alone is_ragged _ c.in_default.not-Node c.in_default.not-Links c.in_default.not-Rows;
}

pub flaws_of-returns-in-Node : goal.flaws_of-returns-in-Node
flaws_of-returns-in-Node g t c = record {
  wide = node_joins is_wide _ c.or.ensures.wide c.own_flaws-here.ensures.wide c.in-Node.is c.as_slice.ensures
      c.flaws_of_each.ensures.wide;
  long = node_joins is_long _ c.or.ensures.long c.own_flaws-here.ensures.long c.in-Node.is c.as_slice.ensures
      c.flaws_of_each.ensures.long;
  ragged = node_joins is_ragged _ c.or.ensures.ragged c.own_flaws-here.ensures.ragged c.in-Node.is c.as_slice.ensures
      c.flaws_of_each.ensures.ragged;
}

pub flaws_of-returns-in-Links : goal.flaws_of-returns-in-Links
flaws_of-returns-in-Links g t c = record {
  wide = links_join is_wide _ c.or-in-Links.ensures.wide c.own_flaws-here.ensures.wide c.in-Links.is
      c.as_slice-in-Links.ensures c.flaws_of_each-in-Links.ensures.wide;
  long = links_join is_long _ c.or-in-Links.ensures.long c.own_flaws-here.ensures.long c.in-Links.is
      c.as_slice-in-Links.ensures c.flaws_of_each-in-Links.ensures.long;
  ragged = links_join is_ragged _ c.or-in-Links.ensures.ragged c.own_flaws-here.ensures.ragged c.in-Links.is
      c.as_slice-in-Links.ensures c.flaws_of_each-in-Links.ensures.ragged;
}

pub flaws_of-returns-in-Rows : goal.flaws_of-returns-in-Rows
flaws_of-returns-in-Rows g t c = record {
  wide = rows_join is_wide _ c.or-in-Rows.ensures.wide c.own_flaws-here.ensures.wide c.in-Rows.is
      c.as_slice-in-Rows.ensures c.flaws_of_rows.ensures.wide;
  long = rows_join is_long _ c.or-in-Rows.ensures.long c.own_flaws-here.ensures.long c.in-Rows.is
      c.as_slice-in-Rows.ensures c.flaws_of_rows.ensures.long;
  ragged = rows_join is_ragged _ c.or-in-Rows.ensures.ragged c.own_flaws-here.ensures.ragged c.in-Rows.is
      c.as_slice-in-Rows.ensures c.flaws_of_rows.ensures.ragged;
}

pub flaws_of_each-loop-v-preserved : goal.flaws_of_each-loop-v-preserved
flaws_of_each-loop-v-preserved g t c = record {
  wide = each_joins is_wide c.args.items.now _ _ c.loop-v.invariant.wide c.v-item.result (omega arith) c.v-item.is
      c.or-found.ensures.wide c.flaws_of.ensures.wide;
  long = each_joins is_long c.args.items.now _ _ c.loop-v.invariant.long c.v-item.result (omega arith) c.v-item.is
      c.or-found.ensures.long c.flaws_of.ensures.long;
  ragged = each_joins is_ragged c.args.items.now _ _ c.loop-v.invariant.ragged c.v-item.result (omega arith) c.v-item.is
      c.or-found.ensures.ragged c.flaws_of.ensures.ragged;
}

pub flaws_of_each-returns : goal.flaws_of_each-returns
flaws_of_each-returns g t c = record {
  wide = each_joined is_wide c.args.items.now _ _ c.loop-v.invariant.wide (omega arith);
  long = each_joined is_long c.args.items.now _ _ c.loop-v.invariant.long (omega arith);
  ragged = each_joined is_ragged c.args.items.now _ _ c.loop-v.invariant.ragged (omega arith);
}

pub flaws_of_rows-loop-body-preserved : goal.flaws_of_rows-loop-body-preserved
flaws_of_rows-loop-body-preserved g t c = record {
  wide = row_joins is_wide c.args.bodies.now _ _ c.loop-body.invariant.wide c.body-item.result _ (omega arith)
      c.body-item.is c.as_slice.ensures c.or-found.ensures.wide c.flaws_of_each.ensures.wide;
  long = row_joins is_long c.args.bodies.now _ _ c.loop-body.invariant.long c.body-item.result _ (omega arith)
      c.body-item.is c.as_slice.ensures c.or-found.ensures.long c.flaws_of_each.ensures.long;
  ragged = row_joins is_ragged c.args.bodies.now _ _ c.loop-body.invariant.ragged c.body-item.result _ (omega arith)
      c.body-item.is c.as_slice.ensures c.or-found.ensures.ragged c.flaws_of_each.ensures.ragged;
}

pub flaws_of_rows-returns : goal.flaws_of_rows-returns
flaws_of_rows-returns g t c = record {
  wide = rows_joined is_wide c.args.bodies.now _ _ c.loop-body.invariant.wide (omega arith);
  long = rows_joined is_long c.args.bodies.now _ _ c.loop-body.invariant.long (omega arith);
  ragged = rows_joined is_ragged c.args.bodies.now _ _ c.loop-body.invariant.ragged (omega arith);
}

pub flaws_of-flaws_of_each-requires : goal.flaws_of-flaws_of_each-requires
flaws_of-flaws_of_each-requires g t c κs within =
    (falls_above _ _ _ t c.decreases (in_slots c.args.v.now _ c.in-Node.is c.as_slice.ensures), within)

pub flaws_of-flaws_of_each-requires-in-Links : goal.flaws_of-flaws_of_each-requires-in-Links
flaws_of-flaws_of_each-requires-in-Links g t c κs within =
    (falls_above _ _ _ t c.decreases (in_links c.args.v.now c.in-Links.is c.as_slice-in-Links.ensures), within)

pub flaws_of-flaws_of_rows-requires : goal.flaws_of-flaws_of_rows-requires
flaws_of-flaws_of_rows-requires g t c κs within =
    (falls _ _ _ t c.decreases (in_rows c.args.v.now c.in-Rows.is c.as_slice-in-Rows.ensures), within)

pub flaws_of_each-flaws_of-requires : goal.flaws_of_each-flaws_of-requires
flaws_of_each-flaws_of-requires g t c κs within =
    (steps_down _ _ t c.decreases (item_below c.args.items.now _ c.v-item.result (omega arith) c.v-item.is), within)

pub flaws_of_rows-flaws_of_each-requires : goal.flaws_of_rows-flaws_of_each-requires
flaws_of_rows-flaws_of_each-requires g t c κs within = (
  falls_above _ _ _ t c.decreases
      (row_slots_below c.args.bodies.now _ c.body-item.result (omega arith) c.body-item.is c.as_slice.ensures),
  within,
)
