use Rattle.std.proofs.Common.{arith, min, subst, sym, ap, ◌∙◌, refl, length}
use Rattle.capn_value.specs.InRange.{InRange}
use Rattle.capn_value.specs.Cost.{cost, dear}
use Rattle.capn_value.specs.TreeOf.{tree_of}
use Rattle.capn_value.specs.Views.{tree_of-Nil}
use Rattle.capn_value.proofs.Cases.{cap_seen}
use Rattle.capn_value.proofs.Costs.{voids_cost, numbers_cost, div_ceil-one, node_costs, links_cost, rows_cost}
use Rattle.capn_value.proofs.Costs.{numbers_ranged}
use Rattle.capn_value.proofs.Lists.{is_bits, is_bytes, is_pairs, is_quads, is_octs}
use Rattle.capn_value.proofs.shared.Bits.{bits_long, bits_below}
use Rattle.capn_value.proofs.Costs.{node_ranged, links_ranged, rows_ranged, still_capped, each_cost, all_cost, row_cost}
use Rattle.capn_value.proofs.Costs.{all_rows_cost, row_sized, all_sized, each_ranged, all_ranged, row_ranged}
use Rattle.capn_value.proofs.Costs.{all_rows_ranged}
use Rattle.capn_value.proofs.Depths.{falls, falls_above, steps_down, in_links, in_rows, in_slots, item_below}
use Rattle.capn_value.proofs.Depths.{row_slots_below}
use Rattle.capn_value.proofs.cost_and_height.+cost.Goals as goal

pub capped_cost-returns-in-Nil-clause-value : goal.capped_cost-returns-in-Nil-clause-value
capped_cost-returns-in-Nil-clause-value g t c =
    sym (ap (λ u. min (cost c.args.base u) dear) (ap tree_of c.in-Nil.is ∙ tree_of-Nil _))

pub capped_cost-returns-in-Nil-clause-in_range : goal.capped_cost-returns-in-Nil-clause-in_range
capped_cost-returns-in-Nil-clause-in_range g t c = subst InRange (sym (ap tree_of c.in-Nil.is ∙ tree_of-Nil _)) tt

pub capped_cost-returns-in-Cap-clause-value : goal.capped_cost-returns-in-Cap-clause-value
capped_cost-returns-in-Cap-clause-value g t c = cap_seen (λ u. min (cost c.args.base u) dear) _ c.in-Cap.is

pub capped_cost-returns-in-Voids-clause-value : goal.capped_cost-returns-in-Voids-clause-value
capped_cost-returns-in-Voids-clause-value g t c = voids_cost _ dear _ c.in-Voids.is c.plus-in-Voids.ensures

pub capped_cost-returns-in-Bits-clause-value : goal.capped_cost-returns-in-Bits-clause-value
capped_cost-returns-in-Bits-clause-value g t c =
    numbers_cost _ dear _ (is_bits c.in-Bits.is) (bits_long _ c.len.ensures) c.div_ceil.ensures c.plus-in-Bits.ensures

pub capped_cost-returns-in-Bits-clause-in_range : goal.capped_cost-returns-in-Bits-clause-in_range
capped_cost-returns-in-Bits-clause-in_range g t c = numbers_ranged _ (is_bits c.in-Bits.is) refl (bits_below _)

pub capped_cost-returns-in-Bytes-clause-value : goal.capped_cost-returns-in-Bytes-clause-value
capped_cost-returns-in-Bytes-clause-value g t c =
    numbers_cost _ dear _ (is_bytes c.in-Bytes.is) (ap length c.as_slice-in-Bytes.ensures) c.byte_words.ensures.words
    c.plus-in-Bytes.ensures

pub capped_cost-returns-in-Bytes-clause-in_range : goal.capped_cost-returns-in-Bytes-clause-in_range
capped_cost-returns-in-Bytes-clause-in_range g t c =
    numbers_ranged _ (is_bytes c.in-Bytes.is) c.as_slice-in-Bytes.ensures c.byte_words.ensures.in_range

pub capped_cost-returns-in-Pairs-clause-value : goal.capped_cost-returns-in-Pairs-clause-value
capped_cost-returns-in-Pairs-clause-value g t c =
    numbers_cost _ dear _ (is_pairs c.in-Pairs.is) (ap length c.as_slice-in-Pairs.ensures) c.pair_words.ensures.words
    c.plus-in-Pairs.ensures

pub capped_cost-returns-in-Pairs-clause-in_range : goal.capped_cost-returns-in-Pairs-clause-in_range
capped_cost-returns-in-Pairs-clause-in_range g t c =
    numbers_ranged _ (is_pairs c.in-Pairs.is) c.as_slice-in-Pairs.ensures c.pair_words.ensures.in_range

pub capped_cost-returns-in-Quads-clause-value : goal.capped_cost-returns-in-Quads-clause-value
capped_cost-returns-in-Quads-clause-value g t c =
    numbers_cost _ dear _ (is_quads c.in-Quads.is) (ap length c.as_slice-in-Quads.ensures) c.quad_words.ensures.words
    c.plus-in-Quads.ensures

pub capped_cost-returns-in-Quads-clause-in_range : goal.capped_cost-returns-in-Quads-clause-in_range
capped_cost-returns-in-Quads-clause-in_range g t c =
    numbers_ranged _ (is_quads c.in-Quads.is) c.as_slice-in-Quads.ensures c.quad_words.ensures.in_range

pub capped_cost-returns-in-Octs-clause-value : goal.capped_cost-returns-in-Octs-clause-value
capped_cost-returns-in-Octs-clause-value g t c =
    numbers_cost _ dear _ (is_octs c.in-Octs.is) (ap length c.as_slice-in-Octs.ensures)
    (c.oct_words.ensures.words ∙ div_ceil-one _) c.plus-in-Octs.ensures

pub capped_cost-returns-in-Octs-clause-in_range : goal.capped_cost-returns-in-Octs-clause-in_range
capped_cost-returns-in-Octs-clause-in_range g t c =
    numbers_ranged _ (is_octs c.in-Octs.is) c.as_slice-in-Octs.ensures c.oct_words.ensures.in_range

pub capped_cost-returns-in-Node-clause-value : goal.capped_cost-returns-in-Node-clause-value
capped_cost-returns-in-Node-clause-value g t c =
    node_costs _ dear _ c.in-Node.is c.as_slice.ensures c.as_slice-slots.ensures c.oct_words-words.ensures.words
    c.plus.ensures c.plus-own.ensures c.capped_costs.ensures.value c.plus-in-Node.ensures

pub capped_cost-returns-in-Node-clause-in_range : goal.capped_cost-returns-in-Node-clause-in_range
capped_cost-returns-in-Node-clause-in_range g t c =
    node_ranged _ c.in-Node.is c.as_slice.ensures c.as_slice-slots.ensures c.oct_words-words.ensures.in_range
    c.capped_costs.ensures.in_range

pub capped_cost-returns-in-Links-clause-value : goal.capped_cost-returns-in-Links-clause-value
capped_cost-returns-in-Links-clause-value g t c =
    links_cost _ dear _ c.in-Links.is c.as_slice-items.ensures c.plus-in-Links.ensures
    c.capped_costs-in-Links.ensures.value c.plus-in-Links-2.ensures

pub capped_cost-returns-in-Links-clause-in_range : goal.capped_cost-returns-in-Links-clause-in_range
capped_cost-returns-in-Links-clause-in_range g t c =
    links_ranged _ c.in-Links.is c.as_slice-items.ensures c.capped_costs-in-Links.ensures.in_range

pub capped_cost-returns-in-Rows-clause-value : goal.capped_cost-returns-in-Rows-clause-value
capped_cost-returns-in-Rows-clause-value g t c =
    rows_cost _ dear _ c.in-Rows.is c.as_slice-bodies.ensures c.plus-in-Rows.ensures c.capped_rows_price.ensures
    c.plus-own-in-Rows.ensures c.measured_rows-rows.ensures.costs c.plus-in-Rows-2.ensures

pub capped_cost-returns-in-Rows-clause-in_range : goal.capped_cost-returns-in-Rows-clause-in_range
capped_cost-returns-in-Rows-clause-in_range g t c =
    rows_ranged _ c.in-Rows.is c.as_slice-bodies.ensures c.measured_rows-rows.ensures.in_range

pub capped_costs-loop-v-preserved : goal.capped_costs-loop-v-preserved
capped_costs-loop-v-preserved g t c = record {
  capped = still_capped _ _ _ c.plus-sum.ensures;
  so_far = each_cost _ dear _ _ c.args.items.now _ c.loop-v.invariant.so_far c.v-item.result (omega arith) c.v-item.is
      c.capped_cost.ensures.value c.plus-sum.ensures;
  in_range = each_ranged c.args.items.now _ c.loop-v.invariant.in_range c.v-item.result (omega arith) c.v-item.is
      c.capped_cost.ensures.in_range;
}

pub capped_costs-returns-clause-value : goal.capped_costs-returns-clause-value
capped_costs-returns-clause-value g t c =
    all_cost _ dear _ _ c.args.items.now _ c.loop-v.invariant.so_far c.loop-v.invariant.capped (omega arith)

pub capped_costs-returns-clause-in_range : goal.capped_costs-returns-clause-in_range
capped_costs-returns-clause-in_range g t c = all_ranged c.args.items.now _ c.loop-v.invariant.in_range (omega arith)

pub measured_rows-loop-body-preserved : goal.measured_rows-loop-body-preserved
measured_rows-loop-body-preserved g t c = record {
  few = still_capped _ _ _ c.plus-words.ensures;
  words = row_sized dear _ _ c.args.bodies.now _ c.loop-body.invariant.words c.body-item.result (omega arith)
      c.body-item.is c.as_slice.ensures
      c.as_slice-slots.ensures c.oct_words.ensures.words c.plus.ensures c.plus-words.ensures;
  cheap = still_capped _ _ _ c.plus-costs.ensures;
  costs = row_cost _ dear _ _ c.args.bodies.now _ c.loop-body.invariant.costs c.body-item.result (omega arith)
      c.body-item.is c.as_slice-slots.ensures c.capped_costs.ensures.value c.plus-costs.ensures;
  in_range = row_ranged c.args.bodies.now _ c.loop-body.invariant.in_range c.body-item.result (omega arith)
      c.body-item.is c.as_slice.ensures
      c.as_slice-slots.ensures c.oct_words.ensures.in_range c.capped_costs.ensures.in_range;
}

pub measured_rows-returns-clause-words : goal.measured_rows-returns-clause-words
measured_rows-returns-clause-words g t c =
    all_sized dear _ _ c.args.bodies.now _ c.loop-body.invariant.words c.loop-body.invariant.few (omega arith)

pub measured_rows-returns-clause-costs : goal.measured_rows-returns-clause-costs
measured_rows-returns-clause-costs g t c =
    all_rows_cost _ dear _ _ c.args.bodies.now _ c.loop-body.invariant.costs c.loop-body.invariant.cheap (omega arith)

pub measured_rows-returns-clause-in_range : goal.measured_rows-returns-clause-in_range
measured_rows-returns-clause-in_range g t c =
    all_rows_ranged c.args.bodies.now _ c.loop-body.invariant.in_range (omega arith)

pub capped_cost-capped_costs-requires : goal.capped_cost-capped_costs-requires
capped_cost-capped_costs-requires g t c κs within =
    (falls_above _ _ _ t c.decreases (in_slots c.args.v.now _ c.in-Node.is c.as_slice-slots.ensures), within)

pub capped_cost-capped_costs-requires-in-Links : goal.capped_cost-capped_costs-requires-in-Links
capped_cost-capped_costs-requires-in-Links g t c κs within =
    (falls_above _ _ _ t c.decreases (in_links c.args.v.now c.in-Links.is c.as_slice-items.ensures), within)

pub capped_cost-measured_rows-rows-requires : goal.capped_cost-measured_rows-rows-requires
capped_cost-measured_rows-rows-requires g t c κs within =
    (falls _ _ _ t c.decreases (in_rows c.args.v.now c.in-Rows.is c.as_slice-bodies.ensures), within)

pub capped_costs-capped_cost-requires : goal.capped_costs-capped_cost-requires
capped_costs-capped_cost-requires g t c κs within =
    (steps_down _ _ t c.decreases (item_below c.args.items.now _ c.v-item.result (omega arith) c.v-item.is), within)

pub measured_rows-capped_costs-requires : goal.measured_rows-capped_costs-requires
measured_rows-capped_costs-requires g t c κs within = (
  falls_above _ _ _ t c.decreases
      (row_slots_below c.args.bodies.now _ c.body-item.result (omega arith) c.body-item.is c.as_slice-slots.ensures),
  within,
)
