-- Lemmas for `cost_and_height.rt`, `tree.rt`, capn_canon and capn_walk: if a value is in range, its trimmed value is in
-- range.
use Rattle.std.proofs.Common.{ℕ, zero, suc, ◌<◌, ◌^◌, List, [], ◌∷◌, take}
use Rattle.std.specs.Prelude.{slice_index}
use Rattle.capn_value.specs.Tree.{Tree, nil, node, voids, numbers, links, rows, cap, Trees}
use Rattle.capn_value.specs.Tree.{no_trees, tree, Bodies, no_bodies, body, front}
use Rattle.capn_value.specs.Trim.{kept_words, kept_slots, kept_words_of_rows, kept_slots_of_rows, trimmed, trimmed_each}
use Rattle.capn_value.specs.Trim.{trimmed_rows}
use Rattle.capn_value.specs.InRange.{AllBelow, InRange, EachInRange, RowsInRange}

-- if the number of `xs` at each index is below `most`, `AllBelow most xs` holds
pub below_from : (most : ℕ) (xs : List ℕ) → ((k : ℕ) → slice_index xs k < most) → AllBelow most xs
below_from most [] each = tt
below_from most (x ∷ xs) each = (each 0, below_from most xs (λ k. each (suc k)))

-- if all numbers of `xs` are below `most`, so are the first `n` numbers of `xs`
pub below-take : (most n : ℕ) (xs : List ℕ) → AllBelow most xs → AllBelow most (take n xs)
below-take most zero xs h = tt
below-take most (suc n) [] h = tt
below-take most (suc n) (x ∷ xs) h = (h.0, below-take most n xs h.1)

-- if all values are in range, so are the first `n`
pub each_in_range-front : (n : ℕ) (ts : Trees) → EachInRange ts → EachInRange (front n ts)
each_in_range-front zero ts h = tt
each_in_range-front (suc n) no_trees h = tt
each_in_range-front (suc n) (tree t ts) h = (h.0, each_in_range-front n ts h.1)

mutual
  pub in_range-trimmed : (t : Tree) → InRange t → InRange (trimmed t)
  in_range-trimmed nil h = h
  in_range-trimmed (node ws ss) h = (
    below-take (2 ^ 64) (kept_words ws) ws h.0,
    each_in_range-front (kept_slots ss) (trimmed_each ss) (each_in_range-trimmed ss h.1),
  )
  in_range-trimmed (voids n) h = h
  in_range-trimmed (numbers a xs) h = h
  in_range-trimmed (links ts) h = each_in_range-trimmed ts h
  in_range-trimmed (rows bs) h = rows_in_range-trimmed (kept_words_of_rows bs) (kept_slots_of_rows bs) bs h
  in_range-trimmed (cap k) h = h

  -- if the values of slots are in range, so are the trimmed values
  pub each_in_range-trimmed : (ts : Trees) → EachInRange ts → EachInRange (trimmed_each ts)
  each_in_range-trimmed no_trees h = tt
  each_in_range-trimmed (tree t ts) h = (in_range-trimmed t h.0, each_in_range-trimmed ts h.1)

  -- if the values of rows are in range, so are the trimmed values
  pub rows_in_range-trimmed : (w s : ℕ) (bs : Bodies) → RowsInRange bs → RowsInRange (trimmed_rows w s bs)
  rows_in_range-trimmed w s no_bodies h = tt
  rows_in_range-trimmed w s (body ws ss bs) h = (
    below-take (2 ^ 64) w ws h.0,
    each_in_range-front s (trimmed_each ss) (each_in_range-trimmed ss h.1),
    rows_in_range-trimmed w s bs h.2,
  )
