use Rattle.std.proofs.Common.{arith, refl, sym, ap, ◌∙◌, map}
use Rattle.std.specs.Int.{from_bool}
use Rattle.capn_value.specs.NumberWidth.{is_set}
use Rattle.capn_value.specs.Views.{count-trees_of, count_rows-rows_of}
use Rattle.capn_value.proofs.Apart.{both_nil, both_node, both_voids, both_numbers, both_links, both_rows, both_cap}
use Rattle.capn_value.proofs.Apart.{nil_apart, node_apart, voids_apart, numbers_apart, links_apart}
use Rattle.capn_value.proofs.Lists.{is_bits, is_bytes, is_pairs, is_quads, is_octs, bits_pointwise}
use Rattle.capn_value.proofs.Apart.{rows_apart, cap_apart, test_slots-past_shared, test_each-uneven, test_rows-uneven}
use Rattle.capn_value.proofs.Pairwise.{ended, in_left, in_right, fails, holds, words_differ, words_agree, each_differs}
use Rattle.capn_value.proofs.Pairwise.{each_agrees, each_tested, slots_differ, slots_agree, row_differs, row_agrees}
use Rattle.capn_value.proofs.Pairwise.{rows_tested}
use Rattle.capn_value.specs.TreeOf.{trees_of, rows_of}
use Rattle.capn_value.specs.inner.SameTest.{test_slots, test_each, test_rows}
use Rattle.capn_value.proofs.Depths.{falls, falls_above, steps_down, in_body, in_links, in_rows, in_node, item_below}
use Rattle.capn_value.proofs.Depths.{row_below}
use Rattle.capn_value.proofs.sameness.+sameness.Goals as goal

pub test-returns-in-Nil-Nil : goal.test-returns-in-Nil-Nil
test-returns-in-Nil-Nil g t c = both_nil _ _ c.in-Nil-Nil.is-0 c.in-Nil-Nil.is-1

pub test-returns-in-Node-Node : goal.test-returns-in-Node-Node
test-returns-in-Node-Node g t c =
    both_node _ _ _ _ c.in-Node-Node.is-0 c.in-Node-Node.is-1 c.test_bodies.ensures

pub test-returns-in-Voids-Voids : goal.test-returns-in-Voids-Voids
test-returns-in-Voids-Voids g t c =
    both_voids _ _ c.in-Voids-Voids.m c.in-Voids-Voids.n c.in-Voids-Voids.is-0 c.in-Voids-Voids.is-1 refl

pub test-returns-in-Cap-Cap : goal.test-returns-in-Cap-Cap
test-returns-in-Cap-Cap g t c =
    both_cap _ _ c.in-Cap-Cap.j c.in-Cap-Cap.k c.in-Cap-Cap.is-0 c.in-Cap-Cap.is-1 refl

pub test-returns-in-Bits-Bits : goal.test-returns-in-Bits-Bits
test-returns-in-Bits-Bits g t c =
    both_numbers _ _ (is_bits c.in-Bits-Bits.is-0) (is_bits c.in-Bits-Bits.is-1) (ap (map from_bool) c.as_slice.ensures)
    (ap (map from_bool) c.as_slice-in-Bits-Bits.ensures) (c.eq.ensures
    ∙ bits_pointwise c.as_slice.result.now c.as_slice-in-Bits-Bits.result.now)

pub test-returns-in-Bytes-Bytes : goal.test-returns-in-Bytes-Bytes
test-returns-in-Bytes-Bytes g t c =
    both_numbers _ _ (is_bytes c.in-Bytes-Bytes.is-0) (is_bytes c.in-Bytes-Bytes.is-1) c.as_slice-in-Bytes-Bytes.ensures
    c.as_slice-in-Bytes-Bytes-2.ensures c.eq-in-Bytes-Bytes.ensures

pub test-returns-in-Pairs-Pairs : goal.test-returns-in-Pairs-Pairs
test-returns-in-Pairs-Pairs g t c =
    both_numbers _ _ (is_pairs c.in-Pairs-Pairs.is-0) (is_pairs c.in-Pairs-Pairs.is-1) c.as_slice-in-Pairs-Pairs.ensures
    c.as_slice-in-Pairs-Pairs-2.ensures c.eq-in-Pairs-Pairs.ensures

pub test-returns-in-Quads-Quads : goal.test-returns-in-Quads-Quads
test-returns-in-Quads-Quads g t c =
    both_numbers _ _ (is_quads c.in-Quads-Quads.is-0) (is_quads c.in-Quads-Quads.is-1) c.as_slice-in-Quads-Quads.ensures
    c.as_slice-in-Quads-Quads-2.ensures c.eq-in-Quads-Quads.ensures

pub test-returns-in-Octs-Octs : goal.test-returns-in-Octs-Octs
test-returns-in-Octs-Octs g t c =
    both_numbers _ _ (is_octs c.in-Octs-Octs.is-0) (is_octs c.in-Octs-Octs.is-1) c.as_slice-in-Octs-Octs.ensures
    c.as_slice-in-Octs-Octs-2.ensures c.eq-in-Octs-Octs.ensures

pub test-returns-in-Links-Links : goal.test-returns-in-Links-Links
test-returns-in-Links-Links g t c =
    both_links _ _ c.in-Links-Links.xs _ c.in-Links-Links.ys _ c.in-Links-Links.is-0 c.in-Links-Links.is-1
    c.as_slice-in-Links-Links.ensures c.as_slice-in-Links-Links-2.ensures c.test_each.ensures

pub test-returns-in-Rows-Rows : goal.test-returns-in-Rows-Rows
test-returns-in-Rows-Rows g t c =
    both_rows _ _ c.in-Rows-Rows.xs _ c.in-Rows-Rows.ys _ c.in-Rows-Rows.is-0 c.in-Rows-Rows.is-1
    c.as_slice-in-Rows-Rows.ensures c.as_slice-in-Rows-Rows-2.ensures c.test_rows.ensures

pub test-returns-in_default : goal.test-returns-in_default
test-returns-in_default g t c = nil_apart _ _ c.in_default.is-0 c.in_default.not-Nil-1

pub test-returns-in_default-2 : goal.test-returns-in_default-2
test-returns-in_default-2 g t c = node_apart _ _ _ c.in_default.is-0 c.in_default.not-Node-1

pub test-returns-in_default-3 : goal.test-returns-in_default-3
test-returns-in_default-3 g t c = voids_apart _ _ _ c.in_default.is-0 c.in_default.not-Voids-1

pub test-returns-in_default-4 : goal.test-returns-in_default-4
test-returns-in_default-4 g t c =
    numbers_apart _ _ (is_bits c.in_default.is-0) (λ ys. c.in_default.not-Bits-1 (map is_set ys))

pub test-returns-in_default-5 : goal.test-returns-in_default-5
test-returns-in_default-5 g t c = numbers_apart _ _ (is_bytes c.in_default.is-0) c.in_default.not-Bytes-1

pub test-returns-in_default-6 : goal.test-returns-in_default-6
test-returns-in_default-6 g t c = numbers_apart _ _ (is_pairs c.in_default.is-0) c.in_default.not-Pairs-1

pub test-returns-in_default-7 : goal.test-returns-in_default-7
test-returns-in_default-7 g t c = numbers_apart _ _ (is_quads c.in_default.is-0) c.in_default.not-Quads-1

pub test-returns-in_default-8 : goal.test-returns-in_default-8
test-returns-in_default-8 g t c = numbers_apart _ _ (is_octs c.in_default.is-0) c.in_default.not-Octs-1

pub test-returns-in_default-9 : goal.test-returns-in_default-9
test-returns-in_default-9 g t c = links_apart _ _ _ c.in_default.is-0 c.in_default.not-Links-1

pub test-returns-in_default-10 : goal.test-returns-in_default-10
test-returns-in_default-10 g t c = rows_apart _ _ _ c.in_default.is-0 c.in_default.not-Rows-1

pub test-returns-in_default-11 : goal.test-returns-in_default-11
test-returns-in_default-11 g t c = cap_apart _ _ _ c.in_default.is-0 c.in_default.not-Cap-1

pub test_slots-returns-then-are_null : goal.test_slots-returns-then-are_null
test_slots-returns-then-are_null g t c =
    c.are_null-then-are_null.ensures
    ∙ holds _ _ c.are_null.ensures c.if-are_null.true
    (test_slots-past_shared c.args.a.now c.args.b.now c.loop-i.i c.min-shared.result c.min-shared.ensures
    (ended _ _ c.loop-i.auto.i-end c.loop-i-test.false) c.loop-i.invariant)

pub test_slots-returns-else-are_null : goal.test_slots-returns-else-are_null
test_slots-returns-else-are_null g t c =
    c.if-are_null.false
    ∙ fails _ _ c.are_null.ensures c.if-are_null.false
    (test_slots-past_shared c.args.a.now c.args.b.now c.loop-i.i c.min-shared.result c.min-shared.ensures
    (ended _ _ c.loop-i.auto.i-end c.loop-i-test.false) c.loop-i.invariant)

pub test_bodies-returns-else-test_words : goal.test_bodies-returns-else-test_words
test_bodies-returns-else-test_words g t c =
    words_differ c.as_slice.ensures c.as_slice-2.ensures c.test_words.ensures
    (test_slots (trees_of c.args.a.now.slots) (trees_of c.args.b.now.slots)) c.if-test_words.false

pub test_bodies-returns-then-test_words : goal.test_bodies-returns-then-test_words
test_bodies-returns-then-test_words g t c =
    words_agree c.as_slice.ensures c.as_slice-2.ensures c.test_words.ensures c.if-test_words.true
    c.as_slice-then-test_words.ensures c.as_slice-then-test_words-2.ensures c.test_slots.ensures

pub test_each-returns-then-a-b : goal.test_each-returns-then-a-b
test_each-returns-then-a-b g t c =
    sym (test_each-uneven _ _
    (λ e. c.if-a-b.true (sym (count-trees_of c.args.a.now) ∙ e ∙ count-trees_of c.args.b.now)))

pub test_each-returns-then-not-test : goal.test_each-returns-then-not-test
test_each-returns-then-not-test g t c =
    each_differs c.args.a.now c.args.b.now _ c.loop-i.invariant c.index-a-i.result c.index-b-i.result (omega arith)
    (omega arith) c.index-a-i.is c.index-b-i.is c.test.ensures c.if-not-test.true

pub test_each-loop-i-preserved : goal.test_each-loop-i-preserved
test_each-loop-i-preserved g t c =
    each_agrees c.args.a.now c.args.b.now _ c.loop-i.invariant c.index-a-i.result c.index-b-i.result (omega arith)
    (omega arith) c.index-a-i.is c.index-b-i.is c.test.ensures c.if-not-test.false

pub test_each-returns : goal.test_each-returns
test_each-returns g t c = each_tested c.args.a.now c.args.b.now _ c.loop-i.invariant (omega arith) (omega arith)

pub test_rows-returns-then-a-b : goal.test_rows-returns-then-a-b
test_rows-returns-then-a-b g t c =
    sym (test_rows-uneven _ _
    (λ e. c.if-a-b.true (sym (count_rows-rows_of c.args.a.now) ∙ e ∙ count_rows-rows_of c.args.b.now)))

pub test_rows-returns-then-not-test_bodies : goal.test_rows-returns-then-not-test_bodies
test_rows-returns-then-not-test_bodies g t c =
    row_differs c.args.a.now c.args.b.now _ c.loop-i.invariant c.index-a-i.result c.index-b-i.result (omega arith)
    (omega arith) c.index-a-i.is c.index-b-i.is c.test_bodies.ensures c.if-not-test_bodies.true

pub test_rows-loop-i-preserved : goal.test_rows-loop-i-preserved
test_rows-loop-i-preserved g t c =
    row_agrees c.args.a.now c.args.b.now _ c.loop-i.invariant c.index-a-i.result c.index-b-i.result (omega arith)
    (omega arith) c.index-a-i.is c.index-b-i.is c.test_bodies.ensures c.if-not-test_bodies.false

pub test_rows-returns : goal.test_rows-returns
test_rows-returns g t c = rows_tested c.args.a.now c.args.b.now _ c.loop-i.invariant (omega arith) (omega arith)

pub test_slots-returns-then-not-test : goal.test_slots-returns-then-not-test
test_slots-returns-then-not-test g t c =
    slots_differ c.args.a.now c.args.b.now _ c.loop-i.invariant c.index-a-i.result c.index-b-i.result
    (in_left _ _ _ _ c.min-shared.ensures c.loop-i-test.true) (in_right _ _ _ _ c.min-shared.ensures c.loop-i-test.true)
    c.index-a-i.is c.index-b-i.is c.test.ensures c.if-not-test.true

pub test_slots-loop-i-preserved : goal.test_slots-loop-i-preserved
test_slots-loop-i-preserved g t c =
    slots_agree c.args.a.now c.args.b.now _ c.loop-i.invariant c.index-a-i.result c.index-b-i.result
    (in_left _ _ _ _ c.min-shared.ensures c.loop-i-test.true) (in_right _ _ _ _ c.min-shared.ensures c.loop-i-test.true)
    c.index-a-i.is c.index-b-i.is c.test.ensures c.if-not-test.false

pub test-test_bodies-requires : goal.test-test_bodies-requires
test-test_bodies-requires g t c κs within =
    (falls _ _ _ t c.decreases (in_node c.args.v.now _ c.in-Node-Node.is-0), within)

pub test-test_each-requires : goal.test-test_each-requires
test-test_each-requires g t c κs within = (
  falls_above _ _ _ t c.decreases (in_links c.args.v.now c.in-Links-Links.is-0 c.as_slice-in-Links-Links.ensures),
  within,
)

pub test-test_rows-requires : goal.test-test_rows-requires
test-test_rows-requires g t c κs within =
    (falls_above _ _ _ t c.decreases (in_rows c.args.v.now c.in-Rows-Rows.is-0 c.as_slice-in-Rows-Rows.ensures), within)

pub test_bodies-test_slots-requires : goal.test_bodies-test_slots-requires
test_bodies-test_slots-requires g t c κs within =
    (falls_above _ _ _ t c.decreases (in_body c.args.a.now c.as_slice-then-test_words.ensures), within)

pub test_each-test-requires : goal.test_each-test-requires
test_each-test-requires g t c κs within =
    (steps_down _ _ t c.decreases (item_below c.args.a.now _ c.index-a-i.result (omega arith) c.index-a-i.is), within)

pub test_rows-test_bodies-requires : goal.test_rows-test_bodies-requires
test_rows-test_bodies-requires g t c κs within =
    (steps_down _ _ t c.decreases (row_below c.args.a.now _ c.index-a-i.result (omega arith) c.index-a-i.is), within)

pub test_slots-test-requires : goal.test_slots-test-requires
test_slots-test-requires g t c κs within = (
  steps_down _ _ t c.decreases
      (item_below c.args.a.now _ c.index-a-i.result (in_left _ _ _ _ c.min-shared.ensures c.loop-i-test.true)
      c.index-a-i.is),
  within,
)

pub test_each-bounds-a-i : goal.test_each-bounds-a-i
test_each-bounds-a-i g t c = omega arith

pub test_each-bounds-b-i : goal.test_each-bounds-b-i
test_each-bounds-b-i g t c = omega arith

pub test_rows-bounds-a-i : goal.test_rows-bounds-a-i
test_rows-bounds-a-i g t c = omega arith

pub test_rows-bounds-b-i : goal.test_rows-bounds-b-i
test_rows-bounds-b-i g t c = omega arith

pub test_slots-bounds-a-i : goal.test_slots-bounds-a-i
test_slots-bounds-a-i g t c = in_left _ _ _ _ c.min-shared.ensures c.loop-i-test.true

pub test_slots-bounds-b-i : goal.test_slots-bounds-b-i
test_slots-bounds-b-i g t c = in_right _ _ _ _ c.min-shared.ensures c.loop-i-test.true

pub test_slots-slice_bounds-are_null-count : goal.test_slots-slice_bounds-are_null-count
test_slots-slice_bounds-are_null-count g t c = omega (arith, c.min-shared.ensures)

pub test_slots-slice_bounds-are_null-start : goal.test_slots-slice_bounds-are_null-start
test_slots-slice_bounds-are_null-start g t c = omega (arith, c.min-shared.ensures)

pub test_slots-slice_bounds-are_null-end : goal.test_slots-slice_bounds-are_null-end
test_slots-slice_bounds-are_null-end g t c = omega (arith, c.min-shared.ensures)

pub test_slots-slice_bounds-are_null-count-then-are_null : goal.test_slots-slice_bounds-are_null-count-then-are_null
test_slots-slice_bounds-are_null-count-then-are_null g t c = omega (arith, c.min-shared.ensures)

pub test_slots-slice_bounds-are_null-start-then-are_null : goal.test_slots-slice_bounds-are_null-start-then-are_null
test_slots-slice_bounds-are_null-start-then-are_null g t c = omega (arith, c.min-shared.ensures)

pub test_slots-slice_bounds-are_null-end-then-are_null : goal.test_slots-slice_bounds-are_null-end-then-are_null
test_slots-slice_bounds-are_null-end-then-are_null g t c = omega (arith, c.min-shared.ensures)
