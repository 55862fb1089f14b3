-- The code of trees, which stores each tree as a `Value` over the usual allocator.
use Rattle.std.specs.Prelude.{ℕ, zero, suc, ◌≡◌, List, [], ◌∷◌, map, Bool, true, false}
use Rattle.std.specs.Coded.{Coded, code_by}
use Rattle.std.specs.Int.{from_bool}
use Rattle.std.proofs.Common.{ap, ap₂, ◌∙◌, refl}
use Rattle.std.specs.declared.alloc.Global.{Global}
use Rattle.std.specs.contracts.alloc.Global as heap
use Rattle.std.specs.contracts.impls.GlobalAllocator.TheImpl.{ghosts}
use Rattle.capn_value.specs.NumberWidth.{NumberWidth, bit, byte, pair, quad, oct}
use Rattle.capn_value.specs.Tree.{Tree, nil, node, voids, numbers, links, rows, cap, Trees}
use Rattle.capn_value.specs.Tree.{no_trees, tree, Bodies, no_bodies, body}
use Rattle.capn_value.specs.TreeOf.{tree_of, trees_of, rows_of}
use Rattle.capn_value.specs.Views.{tree_of-Nil, tree_of-Node, tree_of-Voids, tree_of-Bits, tree_of-Bytes, tree_of-Pairs}
use Rattle.capn_value.specs.Views.{tree_of-Quads, tree_of-Octs, tree_of-Links, tree_of-Rows, tree_of-Cap}
use Rattle.capn_value.specs.declared.value.Value.{Value, Nil, Node, Voids, Bits, Bytes, Pairs, Quads, Octs, Links, Rows}
use Rattle.capn_value.specs.declared.value.Value.{Cap}
use Rattle.capn_value.specs.declared.value.Body.{Body}
use Rattle.capn_value.specs.contracts.value.Value as stored

-- This block turns a tree into a `Value`, and the lists in a tree into lists of values. `bits_from` turns numbers into
-- bits.
module _ (A : Type 0) (bits_from : List ℕ → List Bool) where
  -- the `Value` of a list of the numbers `xs`
  abbrev pub numbers_of : NumberWidth → List ℕ → Value A
  numbers_of bit xs = Bits (bits_from xs)
  numbers_of byte xs = Bytes xs
  numbers_of pair xs = Pairs xs
  numbers_of quad xs = Quads xs
  numbers_of oct xs = Octs xs

  abbrev mutual
    pub value_of : Tree → Value A
    value_of nil = Nil
    value_of (node ws ss) = Node (record { words = ws; slots = values_of ss })
    value_of (voids n) = Voids n
    value_of (numbers w xs) = numbers_of w xs
    value_of (links ts) = Links (values_of ts)
    value_of (rows bs) = Rows (bodies_of bs)
    value_of (cap k) = Cap k

    pub values_of : Trees → List (Value A)
    values_of no_trees = []
    values_of (tree t ts) = value_of t ∷ values_of ts

    pub bodies_of : Bodies → List (Body A)
    bodies_of no_bodies = []
    bodies_of (body ws ss bs) = (record { words = ws; slots = values_of ss }) ∷ bodies_of bs

-- The bits of the number `n`, and then the bits `bs`. The numbers of a tree have no bound, so `n` is stored as `n` set
-- bits and one bit that is not set.
abbrev after_set : ℕ → List Bool → List Bool
after_set zero bs = false ∷ bs
after_set (suc n) bs = true ∷ after_set n bs

abbrev pub in_bits : List ℕ → List Bool
in_bits [] = []
in_bits (n ∷ ns) = after_set n (in_bits ns)

-- the list `ns` with 1 added to its first number
abbrev first_raised : List ℕ → List ℕ
first_raised [] = []
first_raised (n ∷ ns) = suc n ∷ ns

abbrev pub from_bits : List ℕ → List ℕ
from_bits [] = []
from_bits (zero ∷ bs) = zero ∷ from_bits bs
from_bits (suc b ∷ bs) = first_raised (from_bits bs)

from_bits-after : (n : ℕ) (bs : List Bool)
    → from_bits (map from_bool (after_set n bs)) ≡ n ∷ from_bits (map from_bool bs)
from_bits-after zero bs = refl
from_bits-after (suc n) bs = ap first_raised (from_bits-after n bs)

from_bits-in : (ns : List ℕ) → from_bits (map from_bool (in_bits ns)) ≡ ns
from_bits-in [] = refl
from_bits-in (n ∷ ns) = from_bits-after n (in_bits ns) ∙ ap (λ ms. n ∷ ms) (from_bits-in ns)

abbrev numbers_from : NumberWidth → List ℕ → List ℕ
numbers_from bit xs = from_bits xs
numbers_from _ xs = xs

-- the tree that was stored, computed from the tree of its `Value`
abbrev mutual
  pub stored_tree : Tree → Tree
  stored_tree (node ws ss) = node ws (stored_each ss)
  stored_tree (numbers w xs) = numbers w (numbers_from w xs)
  stored_tree (links ts) = links (stored_each ts)
  stored_tree (rows bs) = rows (stored_rows bs)
  stored_tree t = t

  pub stored_each : Trees → Trees
  stored_each no_trees = no_trees
  stored_each (tree t ts) = tree (stored_tree t) (stored_each ts)

  pub stored_rows : Bodies → Bodies
  stored_rows no_bodies = no_bodies
  stored_rows (body ws ss bs) = body ws (stored_each ss) (stored_rows bs)

module _ (A : Type 0) where
  numbers-stored : (w : NumberWidth) (xs : List ℕ) → stored_tree (tree_of (numbers_of A in_bits w xs)) ≡ numbers w xs
  numbers-stored bit xs = ap stored_tree (tree_of-Bits A _) ∙ ap (numbers bit) (from_bits-in xs)
  numbers-stored byte xs = ap stored_tree (tree_of-Bytes A xs)
  numbers-stored pair xs = ap stored_tree (tree_of-Pairs A xs)
  numbers-stored quad xs = ap stored_tree (tree_of-Quads A xs)
  numbers-stored oct xs = ap stored_tree (tree_of-Octs A xs)

  mutual
    pub tree-stored : (t : Tree) → stored_tree (tree_of (value_of A in_bits t)) ≡ t
    tree-stored nil = ap stored_tree (tree_of-Nil A)
    tree-stored (node ws ss) = ap stored_tree (tree_of-Node _) ∙ ap (node ws) (trees-stored ss)
    tree-stored (voids n) = ap stored_tree (tree_of-Voids A n)
    tree-stored (numbers w xs) = numbers-stored w xs
    tree-stored (links ts) = ap stored_tree (tree_of-Links _) ∙ ap links (trees-stored ts)
    tree-stored (rows bs) = ap stored_tree (tree_of-Rows _) ∙ ap rows (rows-stored bs)
    tree-stored (cap k) = ap stored_tree (tree_of-Cap A k)

    pub trees-stored : (ts : Trees) → stored_each (trees_of (values_of A in_bits ts)) ≡ ts
    trees-stored no_trees = refl
    trees-stored (tree t ts) = ap₂ tree (tree-stored t) (trees-stored ts)

    pub rows-stored : (bs : Bodies) → stored_rows (rows_of (bodies_of A in_bits bs)) ≡ bs
    rows-stored no_bodies = refl
    rows-stored (body ws ss bs) = ap₂ (body ws) (trees-stored ss) (rows-stored bs)

-- the code of trees, which stores each tree as its `Value`
abbrev pub tree_code : Coded Tree
tree_code = code_by (Value Global) (stored.the_row heap.the_row ghosts).coded (value_of Global in_bits)
    (λ v. stored_tree (tree_of v)) (tree-stored Global)
