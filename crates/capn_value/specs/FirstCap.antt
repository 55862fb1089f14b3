-- The index of the first capability of a value. (Our own.)
use Rattle.std.specs.Prelude.{ℕ, Some, None, Option}
use Rattle.std.specs.Option.{option_or}
use Rattle.capn_value.specs.Tree.{Tree, node, links, rows, cap, Trees}
use Rattle.capn_value.specs.Tree.{no_trees, tree, Bodies, no_bodies, body}

-- The index of the first capability in preorder. In preorder, a value comes before the values in its slots, rows or
-- elements. These values follow in order, and all values below one of them come before the next one.
abbrev mutual
  pub first_cap : Tree → Option ℕ
  first_cap (cap k) = Some k
  first_cap (node ws slots) = first_in slots
  first_cap (links ts) = first_in ts
  first_cap (rows bs) = first_in_rows bs
  first_cap _ = None

  pub first_in : Trees → Option ℕ
  first_in no_trees = None
  first_in (tree t ts) = option_or (first_cap t) (first_in ts)

  pub first_in_rows : Bodies → Option ℕ
  first_in_rows no_bodies = None
  first_in_rows (body ws slots bs) = option_or (first_in slots) (first_in_rows bs)
