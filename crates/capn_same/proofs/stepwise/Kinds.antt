-- Values of different kinds are not the same, and lists of different lengths are not the same. (For `is_same_slot` and
-- `is_same_content`.)
use Rattle.std.proofs.Common.{◌≡◌, ℕ, suc, List, length, refl, ap}
use Rattle.capn_value.specs.Tree.{Tree, nil, node, voids, numbers, links, rows, cap, Trees, no_trees, tree, Bodies}
use Rattle.capn_value.specs.Tree.{no_bodies, body, count, count_rows}
use Rattle.capn_value.specs.Fits.{elements}
use Rattle.capn_value.specs.Same.{Same, SameEach, SameRows}
use Rattle.capn_target.specs.declared.target.Shape.{Shape}
use Rattle.capn_target.specs.declared.target.Shape.TheVariants as shapes
use Rattle.capn_walk.specs.ValueAt.{IsInside}

-- the number of elements of a list of `shape`, or 0 for the shape of a struct
abbrev pub shape_count : Shape → ℕ
shape_count (shapes.Node a b) = 0
shape_count (shapes.Many width n) = n
shape_count (shapes.Rows n a b span) = n

module _ (m : List (List ℕ)) where
  pub inside-count : (shape : Shape) (s w : ℕ) (v : Tree) → IsInside m shape s w v → shape_count shape ≡ elements v
  inside-count shape s w (node ws ss) h = ap shape_count h.0
  inside-count shape s w (voids n) h = ap shape_count h
  inside-count shape s w (numbers a xs) h = ap shape_count h.0
  inside-count shape s w (links ts) h = ap shape_count h.0
  inside-count shape s w (rows bs) h = ap shape_count h.3
  inside-count shape s w nil h = absurd h
  inside-count shape s w (cap k) h = absurd h

each-count : (ss ts : Trees) → SameEach ss ts → count ss ≡ count ts
each-count no_trees no_trees h = refl
each-count (tree s ss) (tree t ts) h = ap suc (each-count ss ts h.1)
each-count _ _ h = absurd h

rows-count : (bs cs : Bodies) → SameRows bs cs → count_rows bs ≡ count_rows cs
rows-count no_bodies no_bodies h = refl
rows-count (body ws ss bs) (body vs ts cs) h = ap suc (rows-count bs cs h.2)
rows-count _ _ h = absurd h

-- values that are the same have the same number of elements
pub same-count : (v w : Tree) → Same v w → elements v ≡ elements w
same-count nil nil h = refl
same-count (node ws ss) (node vs ts) h = refl
same-count (voids n) (voids k) h = h
same-count (numbers a xs) (numbers b ys) h = ap length h.1
same-count (links ss) (links ts) h = each-count ss ts h
same-count (rows bs) (rows cs) h = rows-count bs cs h
same-count (cap j) (cap k) h = refl
same-count _ _ h = absurd h
