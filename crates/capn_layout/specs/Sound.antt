-- Values whose counts, sizes and indices fit in the fields of pointers.
use Rattle.std.specs.Prelude.{ℕ, ◌*◌, ◌^◌, ◌<◌, ◌≤◌, List, length, slice_index, ⊤}
use Rattle.capn_value.specs.NumberWidth.{bits_in}
use Rattle.capn_value.specs.Tree.{Tree, nil, node, voids, numbers, links, rows, cap, Trees}
use Rattle.capn_value.specs.Tree.{no_trees, tree, Bodies, no_bodies, body, count, count_rows}
use Rattle.capn_value.specs.Trim.{kept_words_of_rows, kept_slots_of_rows}
use Rattle.capn_layout.specs.Layout.{row_size}

-- Each row has at least `a` words and `b` slots. (Our own.)
abbrev pub AreWide : ℕ → ℕ → Bodies → Type 0
AreWide a b no_bodies = ⊤
AreWide a b (body ws ss bs) = (a ≤ length ws) × (b ≤ count ss) × AreWide a b bs

-- 0 and each number of `xs` are below `bound`. (Our own.)
abbrev pub AreBelow : ℕ → List ℕ → Type 0
AreBelow bound xs = (i : ℕ) → slice_index xs i < bound

-- The counts, sizes and indices in a value fit in the fields of pointers, and each number in a list fits in its bits.
-- Each row of a list has at least `kept_words_of_rows` words and `kept_slots_of_rows` slots. (Our own.)
abbrev mutual
  pub Sound : Tree → Type 0
  Sound nil = ⊤
  Sound (cap k) = k < 2 ^ 32
  Sound (node ws ss) = (length ws < 2 ^ 16) × (count ss < 2 ^ 16) × Sounds ss
  Sound (voids n) = n < 2 ^ 29
  Sound (numbers a xs) = (length xs < 2 ^ 29) × AreBelow (2 ^ bits_in a) xs
  Sound (links ts) = (count ts < 2 ^ 29) × Sounds ts
  Sound (rows bs) = (count_rows bs < 2 ^ 29) × (kept_words_of_rows bs < 2 ^ 16) × (kept_slots_of_rows bs < 2 ^ 16)
      × (count_rows bs * row_size bs < 2 ^ 29) × AreWide (kept_words_of_rows bs) (kept_slots_of_rows bs) bs
      × SoundRows bs

  pub Sounds : Trees → Type 0
  Sounds no_trees = ⊤
  Sounds (tree t ts) = Sound t × Sounds ts

  pub SoundRows : Bodies → Type 0
  SoundRows no_bodies = ⊤
  SoundRows (body ws ss bs) = Sounds ss × SoundRows bs
