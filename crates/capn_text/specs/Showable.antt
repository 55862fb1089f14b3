-- Values whose numbers a text can show: each number is in the range of its type, and each count fits into 64 bits.
use Rattle.std.specs.Prelude.{◌<◌, ◌^◌, length, ⊤}
use Rattle.capn_value.specs.InRange.{AllBelow}
use Rattle.capn_value.specs.NumberWidth.{bits_in}
use Rattle.capn_value.specs.Tree.{Tree, nil, node, voids, numbers, links, rows, cap, Trees}
use Rattle.capn_value.specs.Tree.{no_trees, tree, Bodies, no_bodies, body, count, count_rows}

-- The value is showable: its numbers are in the range of their types. Its counts are below 2^64, or below 2^32 for
-- elements without bits.
abbrev mutual
  pub IsShowable : Tree → Type 0
  IsShowable nil = ⊤
  IsShowable (node ws ss) = (length ws < 2 ^ 64) × (count ss < 2 ^ 64) × AllBelow (2 ^ 64) ws × EachShowable ss
  IsShowable (voids n) = n < 2 ^ 32
  IsShowable (numbers a xs) = (length xs < 2 ^ 64) × AllBelow (2 ^ bits_in a) xs
  IsShowable (links ts) = (count ts < 2 ^ 64) × EachShowable ts
  IsShowable (rows bs) = (count_rows bs < 2 ^ 64) × RowsShowable bs
  IsShowable (cap k) = k < 2 ^ 32

  -- Each tree of the list is showable.
  pub EachShowable : Trees → Type 0
  EachShowable no_trees = ⊤
  EachShowable (tree t ts) = IsShowable t × EachShowable ts

  -- Each row of the list is showable: its numbers are in range, and its slots are showable.
  pub RowsShowable : Bodies → Type 0
  RowsShowable no_bodies = ⊤
  RowsShowable (body ws ss bs) =
      (length ws < 2 ^ 64) × (count ss < 2 ^ 64) × AllBelow (2 ^ 64) ws × EachShowable ss × RowsShowable bs
