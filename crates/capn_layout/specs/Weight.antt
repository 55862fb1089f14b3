-- The weight of a value, which bounds the reads of a layout.
use Rattle.std.specs.Prelude.{ℕ, ◌+◌, max, length}
use Rattle.capn_value.specs.Tree.{Tree, node, links, rows, Trees, no_trees, tree, Bodies, no_bodies, body, count}
use Rattle.capn_value.specs.Tree.{count_rows, row_words}
use Rattle.capn_layout.specs.Layout.{own}

-- The number of words in all objects of a value, before trailing zeros are cut off. A list of structs counts its rows
-- instead of the rows' words if it has more rows than words. (Our own.)
abbrev mutual
  pub weight : Tree → ℕ
  weight (node ws ss) = length ws + count ss + weights ss
  weight (links ts) = count ts + weights ts
  weight (rows bs) = 1 + max (count_rows bs) (row_words bs) + weights_in_rows bs
  weight v = own v

  pub weights : Trees → ℕ
  weights no_trees = 0
  weights (tree t ts) = weight t + weights ts

  pub weights_in_rows : Bodies → ℕ
  weights_in_rows no_bodies = 0
  weights_in_rows (body ws ss bs) = weights ss + weights_in_rows bs
