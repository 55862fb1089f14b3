-- The sameness of two values, up to trailing zero words and trailing null slots of structs. (Page: canonicalization.)
use Rattle.std.specs.Prelude.{ℕ, ◌≡◌, List, ⊤, slice_index}
use Rattle.capn_value.specs.Tree.{Tree, nil, node, voids, numbers, links, rows, cap, Trees}
use Rattle.capn_value.specs.Tree.{no_trees, tree, Bodies, no_bodies, body}

-- for each `i`, word `i` of `ws` equals word `i` of `vs`, where words past the end count as 0
abbrev pub SameWords : List ℕ → List ℕ → Type 0
SameWords ws vs = (i : ℕ) → slice_index ws i ≡ slice_index vs i

-- each of the slots is null
abbrev pub AllNull : Trees → Type 0
AllNull no_trees = ⊤
AllNull (tree t ts) = (t ≡ nil) × AllNull ts

-- the values are of one kind, and equal up to trailing zero words and trailing null slots of structs, at every level
abbrev mutual
  pub Same : Tree → Tree → Type 0
  Same nil nil = ⊤
  Same (node ws ss) (node vs ts) = SameWords ws vs × SameSlots ss ts
  Same (voids m) (voids n) = m ≡ n
  Same (numbers w xs) (numbers v ys) = (w ≡ v) × (xs ≡ ys)
  Same (links ss) (links ts) = SameEach ss ts
  Same (rows bs) (rows cs) = SameRows bs cs
  Same (cap j) (cap k) = j ≡ k
  Same _ _ = ⊥

  -- the slots at each index are the same, where slots past the end of a list count as null
  pub SameSlots : Trees → Trees → Type 0
  SameSlots no_trees ts = AllNull ts
  SameSlots (tree s ss) no_trees = (s ≡ nil) × SameSlots ss no_trees
  SameSlots (tree s ss) (tree t ts) = Same s t × SameSlots ss ts

  -- both lists have the same number of trees, and the trees at each index are the same
  pub SameEach : Trees → Trees → Type 0
  SameEach no_trees no_trees = ⊤
  SameEach (tree s ss) (tree t ts) = Same s t × SameEach ss ts
  SameEach _ _ = ⊥

  -- both lists have the same number of rows, and the rows at each index are the same, whatever their sizes
  pub SameRows : Bodies → Bodies → Type 0
  SameRows no_bodies no_bodies = ⊤
  SameRows (body ws ss bs) (body vs ts cs) = SameWords ws vs × SameSlots ss ts × SameRows bs cs
  SameRows _ _ = ⊥
