use Rattle.std.proofs.Common.{◌≡◌, suc, ◌-◌, true, false, arith, sym, ap, ◌∙◌}
use Rattle.capn_value.specs.Tree.{front, tree_at, is_null}
use Rattle.capn_value.specs.TreeOf.{trees_of}
use Rattle.capn_value.specs.Views.{count-trees_of}
use Rattle.capn_value.specs.Trim.{kept_slots}
use Rattle.capn_value.proofs.Fronts.{front-length, tree_at-trees_of}
use Rattle.capn_value.proofs.Kept.{kept_slots-null, kept_slots-some}
use Rattle.capn_value.proofs.kept_lengths.kept_slots.Goals as goal

pub loop-n-init : goal.loop-n-init
loop-n-init g c = record { within = omega arith; so_far = ap kept_slots (front-length c.args.slots.now) }

pub loop-n-preserved : goal.loop-n-preserved
loop-n-preserved g c =
    let slots = c.args.slots.now in
    let m = c.loop-n.n - 1 in
    let one_more : c.loop-n.n ≡ suc m = omega arith in
    let null : is_null (tree_at (trees_of slots) m) ≡ true =
    ap is_null (tree_at-trees_of m slots _ (omega arith) c.index-slots-n.is) ∙ sym c.is_null.ensures
    ∙ c.if-is_null.true in
    record {
      within = omega arith;
      so_far = sym (kept_slots-null m (trees_of slots) (omega (arith, count-trees_of slots)) null)
          ∙ ap (λ k. kept_slots (front k (trees_of slots))) (sym one_more) ∙ c.loop-n.invariant.so_far;
    }

pub returns-else-is_null : goal.returns-else-is_null
returns-else-is_null g c =
    let slots = c.args.slots.now in
    let m = c.loop-n.n - 1 in
    let one_more : c.loop-n.n ≡ suc m = omega arith in
    let some : is_null (tree_at (trees_of slots) m) ≡ false =
    ap is_null (tree_at-trees_of m slots _ (omega arith) c.index-slots-n.is) ∙ sym c.is_null.ensures
    ∙ c.if-is_null.false in
    one_more ∙ sym (kept_slots-some m (trees_of slots) (omega (arith, count-trees_of slots)) some)
    ∙ ap (λ k. kept_slots (front k (trees_of slots))) (sym one_more) ∙ c.loop-n.invariant.so_far

pub overflow_sub-n : goal.overflow_sub-n
overflow_sub-n g c = omega arith

pub bounds-slots-n : goal.bounds-slots-n
bounds-slots-n g c = omega arith

pub overflow_sub-n-in-loop-n : goal.overflow_sub-n-in-loop-n
overflow_sub-n-in-loop-n g c = omega arith

pub loop-n-smaller : goal.loop-n-smaller
loop-n-smaller g c = omega arith

pub returns-after-loop-n : goal.returns-after-loop-n
returns-after-loop-n g c =
    let slots = c.args.slots.now in
    let none : c.loop-n.n ≡ 0 = omega arith in
    none ∙ ap (λ k. kept_slots (front k (trees_of slots))) (sym none) ∙ c.loop-n.invariant.so_far
