-- Height and cost: the depth to which a reader follows pointers, and the words that the reader pays. (Page: security
-- considerations. The prices are our own.)
use Rattle.std.specs.Prelude.{ℕ, ◌+◌, ◌*◌, ◌^◌, ◌==◌, max, length, cond}
use Rattle.std.specs.Int.{div_ceil}
use Rattle.capn_value.specs.declared.tariff.Tariff.{Tariff}
use Rattle.capn_value.specs.declared.tariff.Tariff.TheVariants.{Strict, Plain}
use Rattle.capn_value.specs.NumberWidth.{per_word}
use Rattle.capn_value.specs.Tree.{Tree, nil, node, voids, numbers, links, rows, cap, Trees}
use Rattle.capn_value.specs.Tree.{no_trees, tree, Bodies, no_bodies, body, count, count_rows, row_words}

-- the cost of each content in addition to its size
abbrev pub base : Tariff → ℕ
base Strict = 1
base Plain = 0

-- ---- read to here for the theorem

-- the height of a value: 0 for null and for a capability, otherwise 1 plus the greatest height of a value in a slot, a
-- slot of a row, or an element
abbrev mutual
  pub height : Tree → ℕ
  height nil = 0
  height (cap k) = 0
  height (node ws slots) = 1 + greatest slots
  height (links ts) = 1 + greatest ts
  height (rows bs) = 1 + greatest_in_rows bs
  height (voids n) = 1
  height (numbers w xs) = 1

  pub greatest : Trees → ℕ
  greatest no_trees = 0
  greatest (tree t ts) = max (height t) (greatest ts)

  pub greatest_in_rows : Bodies → ℕ
  greatest_in_rows no_bodies = 0
  greatest_in_rows (body ws slots bs) = max (greatest slots) (greatest_in_rows bs)

-- the price of a composite list's rows, without the tag: the number of data words and slots of all rows, or, if there
-- are neither words nor slots, the number of rows
unfoldable pub rows_price : Bodies → ℕ
rows_price bs = cond (row_words bs == 0) (count_rows bs) (row_words bs)

-- The greatest cost of a value that fits, by the plain tariff. This is also the greatest budget.
abbrev pub most_cost : ℕ
most_cost = 2 ^ 28

-- The greatest height of a value that fits. This is also the greatest limit on the depth.
abbrev pub most_height : ℕ
most_height = 256

-- one more than the bound on the cost of a value that fits, by either tariff, so that sums of costs may be capped at
-- this number
abbrev pub dear : ℕ
dear = 2 * most_cost + 2

-- the cost of a value: the sum of the prices of all its contents, if each content costs `base` in addition to its size
module _ (base : ℕ) where
  abbrev mutual
    pub cost : Tree → ℕ
    cost nil = 0
    cost (cap k) = 0
    cost (node ws slots) = base + length ws + count slots + costs slots
    cost (voids n) = base + n
    cost (numbers w xs) = base + div_ceil (length xs) (per_word w)
    cost (links ts) = base + count ts + costs ts
    cost (rows bs) = base + 1 + rows_price bs + costs_in_rows bs

    pub costs : Trees → ℕ
    costs no_trees = 0
    costs (tree t ts) = cost t + costs ts

    pub costs_in_rows : Bodies → ℕ
    costs_in_rows no_bodies = 0
    costs_in_rows (body ws slots bs) = costs slots + costs_in_rows bs
