-- The number of words in the canonical layout of a value. (For `message_layout.rt`, `object_layout.rt`,
-- `tree_layout.rt`, capn_c, capn_canon and capn_mismatch.)
use Rattle.std.proofs.Common.{◌≡◌, ℕ, suc, ◌+◌, ◌*◌, ◌^◌, ◌≤◌, ◌∷◌, length, refl, arith}
use Rattle.std.proofs.lemmas.Bool.Decides.{nat_tests}
use Rattle.capn_value.specs.Tree.{Tree, nil, node, voids, numbers, links, rows, cap, Trees}
use Rattle.capn_value.specs.Tree.{no_trees, tree, Bodies, no_bodies, body, row_words}
use Rattle.capn_value.specs.Cost.{cost, costs, costs_in_rows, rows_price}
use Rattle.capn_value.specs.Trim.{kept_words_of_rows, kept_slots_of_rows}
use Rattle.capn_value.specs.Fits.{Fits}
use Rattle.capn_value.proofs.shared.Fitting.{fit_parts}
use Rattle.capn_value.specs.InRange.{InRange}
use Rattle.capn_walk.proofs.shared.Numbers.{numbers-sized}
use Rattle.capn_layout.specs.Layout.{size, sizes, sizes_in_rows, point, lay, words, canon}
use Rattle.capn_words.proofs.shared.Words.{length-bytes}
use Rattle.capn_layout.specs.Sound.{Sound, Sounds, SoundRows}
use Rattle.capn_layout.proofs.shared.KeptLengths.{kept_words-le, kept_slots-le}
use Rattle.capn_layout.proofs.shared.LayLengths.{length-lay}
use Rattle.capn_layout.proofs.shared.Sound.{wide-words, sound}

priced : (bs : Bodies) → row_words bs ≤ rows_price bs
unfolding rows_price
priced bs = grind (arith, nat_tests)

mutual
  -- The size of a `Sound` value is at most the value's cost, for any `base`.
  pub size-cost : (base : ℕ) (v : Tree) → Sound v → size v ≤ cost base v
  size-cost base nil h = omega arith
  size-cost base (cap k) h = omega arith
  size-cost base (node ws ss) h = let x = kept_words-le ws in let y = kept_slots-le ss in let z =
      sizes-cost base ss h.2 in omega arith
  size-cost base (voids n) h = omega arith
  size-cost base (numbers a xs) h = numbers-sized a base (length xs)
  size-cost base (links ts) h = let z = sizes-cost base ts h.1 in omega arith
  size-cost base (rows bs) h =
      let x = wide-words (kept_words_of_rows bs) (kept_slots_of_rows bs) bs h.4 in
      let y = priced bs in
      let z = sizes-rows-cost base bs h.5 in
      omega arith

  sizes-cost : (base : ℕ) (ts : Trees) → Sounds ts → sizes ts ≤ costs base ts
  sizes-cost base no_trees h = omega arith
  sizes-cost base (tree t ts) h = let x = size-cost base t h.0 in let y = sizes-cost base ts h.1 in omega arith

  sizes-rows-cost : (base : ℕ) (bs : Bodies) → SoundRows bs → sizes_in_rows bs ≤ costs_in_rows base bs
  sizes-rows-cost base no_bodies h = omega arith
  sizes-rows-cost base (body ws ss bs) h = let x = sizes-cost base ss h.0 in let y = sizes-rows-cost base bs h.1 in
      omega arith

-- The number of canonical words of a `Sound` value `v` is `1 + size v`: one word for the pointer to `v`.
pub length_words : (v : Tree) → Sound v → length (words v) ≡ 1 + size v
unfolding words
length_words v h = let a = length-lay v 1 h in let c : length (point v 0 1 ∷ lay v 1) ≡ suc (length (lay v 1)) = refl in
    omega arith

-- If `v` fits and is in range, the number of its canonical words is `1 + size v`, and at most 2^28 + 1. The size of
-- `v` is at most the cost of `v`, for any `base`.
pub room : (v : Tree) → Fits v → InRange v → (length (words v) ≡ 1 + size v) × ((base : ℕ) → size v ≤ cost base v)
    × (length (words v) ≤ 2 ^ 28 + 1)
room v f r =
    let s = sound v f r in
    let a = length_words v s in
    let b = size-cost 0 v s in
    let d = (fit_parts v f).cheap in
    (a, (λ base. size-cost base v s), omega arith)

-- The number of canonical bytes of a `Sound` value `v` is `8 * (1 + size v)`.
pub length-canon : (v : Tree) → Sound v → length (canon v) ≡ 8 * (1 + size v)
length-canon v h = let a = length-bytes (words v) in let b = length_words v h in omega arith
