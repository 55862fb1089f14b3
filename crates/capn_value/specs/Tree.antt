-- Values as mathematical trees, without capacities, addresses or allocators. (Page: structs, lists, capabilities.)
use Rattle.std.specs.Prelude.{ℕ, zero, suc, ◌+◌, List, Bool, true, false, length}
use Rattle.capn_value.specs.NumberWidth.{NumberWidth}

-- The value that a pointer denotes. It is null; a struct, given by its data words and slots; a list of elements without
-- size, of numbers of one width, of pointers or of structs; or a capability, given by its index. The numbers have no
-- bound.
mutual
  pub data Tree : Type 0 where
    nil : Tree
    node : List ℕ → Trees → Tree
    voids : ℕ → Tree
    numbers : NumberWidth → List ℕ → Tree
    links : Trees → Tree
    rows : Bodies → Tree
    cap : ℕ → Tree

  -- the slots of a struct, or the elements of a list of pointers
  pub data Trees : Type 0 where
    no_trees : Trees
    tree : Tree → Trees → Trees

  -- the structs of a composite list, each given by its words and its slots
  pub data Bodies : Type 0 where
    no_bodies : Bodies
    body : List ℕ → Trees → Bodies → Bodies

-- the number of trees in the list
abbrev pub count : Trees → ℕ
count no_trees = 0
count (tree t ts) = suc (count ts)

-- the number of rows in the list
abbrev pub count_rows : Bodies → ℕ
count_rows no_bodies = 0
count_rows (body ws ss bs) = suc (count_rows bs)

-- true if the tree is null
abbrev pub is_null : Tree → Bool
is_null nil = true
is_null _ = false

-- ---- read to here for the theorem

-- tree `i` of the list, or null past the end
abbrev pub tree_at : Trees → ℕ → Tree
tree_at no_trees i = nil
tree_at (tree t ts) zero = t
tree_at (tree t ts) (suc i) = tree_at ts i

-- the first `n` trees
abbrev pub front : ℕ → Trees → Trees
front zero ts = no_trees
front (suc n) no_trees = no_trees
front (suc n) (tree t ts) = tree t (front n ts)

-- the number of data words and slots of all rows together
abbrev pub row_words : Bodies → ℕ
row_words no_bodies = 0
row_words (body ws ss bs) = length ws + count ss + row_words bs

-- the trees of both lists, one list after the other
abbrev pub joined : Trees → Trees → Trees
joined no_trees us = us
joined (tree t ts) us = tree t (joined ts us)

-- the rows of both lists, one list after the other
abbrev pub joined_rows : Bodies → Bodies → Bodies
joined_rows no_bodies cs = cs
joined_rows (body ws ss bs) cs = body ws ss (joined_rows bs cs)
