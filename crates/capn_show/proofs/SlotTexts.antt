-- Lemmas for `PartSteps` and `Steps`: the value in one slot or row is no higher than the greatest height of all slots
-- or rows.
use Rattle.std.proofs.Common.{ℕ, zero, suc, ◌<◌, ◌≤◌, arith}
use Rattle.capn_value.specs.Tree.{Trees, no_trees, tree, Bodies, no_bodies, body, count, count_rows, tree_at}
use Rattle.capn_value.specs.Cost.{height, greatest, greatest_in_rows}
use Rattle.capn_walk.specs.ShownValue.{slots_of_row}

pub low-at : (ts : Trees) (i : ℕ) → i < count ts → height (tree_at ts i) ≤ greatest ts
low-at no_trees i below = absurd (omega arith)
low-at (tree t ts) zero below = omega arith
low-at (tree t ts) (suc i) below = let k = low-at ts i (omega arith) in omega arith

pub row-low : (bs : Bodies) (i : ℕ) → i < count_rows bs → greatest (slots_of_row bs i) ≤ greatest_in_rows bs
row-low no_bodies i below = absurd (omega arith)
row-low (body ws ss bs) zero below = omega arith
row-low (body ws ss bs) (suc i) below = let k = row-low bs i (omega arith) in omega arith
