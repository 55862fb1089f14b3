-- Lemmas for `cost` and capn_walk: the costs of a value by the two tariffs.
use Rattle.std.proofs.Common.{◌≡◌, ℕ, ◌+◌, ◌*◌, ◌≤◌, length, arith}
use Rattle.std.specs.Int.{div_ceil}
use Rattle.capn_value.specs.NumberWidth.{per_word}
use Rattle.capn_value.specs.declared.tariff.Tariff.{Tariff}
use Rattle.capn_value.specs.declared.tariff.Tariff.TheVariants.{Strict, Plain}
use Rattle.capn_value.specs.Tree.{Tree, nil, node, voids, numbers, links, rows, cap, Trees}
use Rattle.capn_value.specs.Tree.{no_trees, tree, Bodies, no_bodies, body, count, row_words}
use Rattle.capn_value.specs.Cost.{base, cost, costs, costs_in_rows, most_cost, dear}
use Rattle.capn_value.specs.Fits.{Fits}
use Rattle.capn_value.proofs.shared.Fitting.{fit_parts}
use Rattle.capn_value.proofs.shared.Prices.{row_words-le}

-- this block shows that a greater base never gives a smaller cost
module _ (less more : ℕ) (le : less ≤ more) where
  raised : (n : ℕ) → less + n ≤ more + n
  raised n = omega (arith, le)

  mutual
    pub cost-raised : (t : Tree) → cost less t ≤ cost more t
    cost-raised nil = omega arith
    cost-raised (cap k) = omega arith
    cost-raised (node ws ss) = omega (arith, le, costs-raised ss)
    cost-raised (links ts) = omega (arith, le, costs-raised ts)
    cost-raised (rows bs) = omega (arith, le, costs_in_rows-raised bs)
    cost-raised (voids n) = omega (arith, le)
    cost-raised (numbers a xs) = raised (div_ceil (length xs) (per_word a))

    costs-raised : (ts : Trees) → costs less ts ≤ costs more ts
    costs-raised no_trees = omega arith
    costs-raised (tree t ts) = omega (arith, cost-raised t, costs-raised ts)

    costs_in_rows-raised : (bs : Bodies) → costs_in_rows less bs ≤ costs_in_rows more bs
    costs_in_rows-raised no_bodies = omega arith
    costs_in_rows-raised (body ws ss bs) = omega (arith, costs-raised ss, costs_in_rows-raised bs)

doubled : (n : ℕ) → 1 + n ≤ 2 * (0 + n) + 1
doubled n = omega arith

-- The strict cost is at most 1 more than twice the plain cost. Each content except the root's has a slot, and each slot
-- costs a word.
mutual
  pub cost-doubled : (t : Tree) → cost 1 t ≤ 2 * cost 0 t + 1
  cost-doubled nil = omega arith
  cost-doubled (cap k) = omega arith
  cost-doubled (node ws ss) = omega (arith, costs-doubled ss)
  cost-doubled (links ts) = omega (arith, costs-doubled ts)
  cost-doubled (rows bs) = omega (arith, costs_in_rows-doubled bs, row_words-le bs)
  cost-doubled (voids n) = omega arith
  cost-doubled (numbers a xs) = doubled (div_ceil (length xs) (per_word a))

  costs-doubled : (ts : Trees) → costs 1 ts ≤ 2 * costs 0 ts + count ts
  costs-doubled no_trees = omega arith
  costs-doubled (tree t ts) = omega (arith, cost-doubled t, costs-doubled ts)

  costs_in_rows-doubled : (bs : Bodies) → costs_in_rows 1 bs ≤ 2 * costs_in_rows 0 bs + row_words bs
  costs_in_rows-doubled no_bodies = omega arith
  costs_in_rows-doubled (body ws ss bs) = omega (arith, costs-doubled ss, costs_in_rows-doubled bs)

-- the cost of a value that fits is below `dear`, by either tariff
pub affordable : (tariff : Tariff) (t : Tree) → Fits t → cost (base tariff) t + 1 ≤ dear
affordable Strict t h = let cheap = (fit_parts t h).cheap in omega (arith, cost-doubled t)
affordable Plain t h = let cheap = (fit_parts t h).cheap in omega arith

-- a value that fits costs at most 2^28 words by the plain tariff
pub plainly_cheap : (tariff : Tariff) (t : Tree) → Fits t → tariff ≡ Plain → cost (base tariff) t ≤ most_cost
plainly_cheap Plain t h e = (fit_parts t h).cheap
plainly_cheap Strict t h e = absurd cc
