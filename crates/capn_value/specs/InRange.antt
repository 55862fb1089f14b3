-- Every number of a value is in the range of its type. (A natural number is never below 0.)
use Rattle.std.specs.Prelude.{ℕ, ◌<◌, ◌^◌, List, ⊤}
use Rattle.std.specs.List.{AllByRecursion}
use Rattle.capn_value.specs.NumberWidth.{bits_in}
use Rattle.capn_value.specs.Tree.{Tree, nil, node, voids, numbers, links, rows, cap, Trees}
use Rattle.capn_value.specs.Tree.{no_trees, tree, Bodies, no_bodies, body}

-- each number of `xs` is below `most`
abbrev pub AllBelow : ℕ → List ℕ → Type 0
AllBelow most xs = AllByRecursion (λ x. x < most) xs

-- words are below 2^64; counts of `voids` and indices of capabilities are below 2^32; the numbers of a list are below
-- the bound of their width (a bit is 0 or 1)
abbrev mutual
  pub InRange : Tree → Type 0
  InRange nil = ⊤
  InRange (node ws ss) = AllBelow (2 ^ 64) ws × EachInRange ss
  InRange (voids n) = n < 2 ^ 32
  InRange (numbers w xs) = AllBelow (2 ^ bits_in w) xs
  InRange (links ts) = EachInRange ts
  InRange (rows bs) = RowsInRange bs
  InRange (cap k) = k < 2 ^ 32

  pub EachInRange : Trees → Type 0
  EachInRange no_trees = ⊤
  EachInRange (tree t ts) = InRange t × EachInRange ts

  pub RowsInRange : Bodies → Type 0
  RowsInRange no_bodies = ⊤
  RowsInRange (body ws ss bs) = AllBelow (2 ^ 64) ws × EachInRange ss × RowsInRange bs
