-- The tree that a `Value` stands for, which connects the declared type with the mathematical one.
use Rattle.std.specs.Prelude.{ℕ, List, [], ◌∷◌, map}
use Rattle.std.specs.Int.{from_bool}
use Rattle.capn_value.specs.NumberWidth.{bit, byte, pair, quad, oct}
use Rattle.capn_value.specs.Tree.{Tree, nil, node, voids, numbers, links, rows, cap, Trees}
use Rattle.capn_value.specs.Tree.{no_trees, tree, Bodies, no_bodies, body}
use Rattle.capn_value.specs.declared.value.Value.{Value, fold-Value}
use Rattle.capn_value.specs.declared.value.Body.{Body}
use Rattle.capn_value.specs.declared.value.Value.TheOpen.{Value-F, Body-F}

-- a list of trees as `Trees`
abbrev pub trees : List Tree → Trees
trees [] = no_trees
trees (t ∷ ts) = tree t (trees ts)

-- a list of bodies as `Bodies`, where each body is given by its words and its slots
abbrev pub rows_from : List (List ℕ × Trees) → Bodies
rows_from [] = no_bodies
rows_from (b ∷ bs) = body b.0 b.1 (rows_from bs)

module _ {A : Type 0} where
  -- the tree of a value whose slots, rows or elements are already given as trees
  abbrev pub value_step : Value-F A Tree (List ℕ × Trees) → Tree
  value_step Value-F.Nil = nil
  value_step (Value-F.Node b) = node b.0 b.1
  value_step (Value-F.Voids n) = voids n
  value_step (Value-F.Bits xs) = numbers bit (map from_bool xs)
  value_step (Value-F.Bytes xs) = numbers byte xs
  value_step (Value-F.Pairs xs) = numbers pair xs
  value_step (Value-F.Quads xs) = numbers quad xs
  value_step (Value-F.Octs xs) = numbers oct xs
  value_step (Value-F.Links ts) = links (trees ts)
  value_step (Value-F.Rows bs) = rows (rows_from bs)
  value_step (Value-F.Cap k) = cap k

  -- the words and slots of a body whose slots are already given as trees
  abbrev pub body_step : Body-F A Tree (List ℕ × Trees) → List ℕ × Trees
  body_step b = (b.words, trees b.slots)

  -- the tree of a value
  unfoldable pub tree_of : Value A → Tree
  tree_of = fold-Value A Tree (List ℕ × Trees) value_step body_step

  -- the words of a body, and the trees of its slots
  abbrev pub body_of : Body A → List ℕ × Trees
  body_of b = (b.words, trees (map tree_of b.slots))

  -- the trees of a list of values
  abbrev pub trees_of : List (Value A) → Trees
  trees_of [] = no_trees
  trees_of (v ∷ vs) = tree (tree_of v) (trees_of vs)

  -- the rows of a list of bodies
  abbrev pub rows_of : List (Body A) → Bodies
  rows_of [] = no_bodies
  rows_of (b ∷ bs) = body b.words (trees_of b.slots) (rows_of bs)
