-- The reads of a message by a layout are bounded by the cost of the message's value, under either tariff. (For
-- `kept.rt`, `message_layout.rt`, `message_slots.rt` and others.)
use Rattle.std.proofs.Common.{◌≡◌, ℕ, zero, suc, ◌+◌, ◌-◌, ◌*◌, ◌<◌, ◌≤◌, ◌==◌, List, length, max, cond, ap, arith}
use Rattle.std.proofs.lemmas.Bool.Decides.{nat_tests}
use Rattle.capn_words.specs.Message.{IsMessage, segment_at}
use Rattle.capn_words.specs.declared.space.Place.{Place}
use Rattle.capn_value.specs.Tree.{Tree, nil, node, voids, numbers, links, rows, cap, Trees}
use Rattle.capn_value.specs.Tree.{no_trees, tree, Bodies, no_bodies, body, count_rows, row_words}
use Rattle.capn_value.specs.Cost.{cost, costs, costs_in_rows, rows_price}
use Rattle.capn_walk.specs.ValueAt.{IsAt, AreAt, RowsAt}
use Rattle.capn_walk.proofs.shared.Numbers.{numbers-sized}
use Rattle.capn_value.specs.Trim.{kept_words_of_rows, kept_slots_of_rows}
use Rattle.capn_layout.specs.Layout.{size, sizes, sizes_in_rows}
use Rattle.capn_layout.specs.Sound.{Sound, Sounds, SoundRows}
use Rattle.capn_layout.specs.MessageSlots.{HasSlot}
use Rattle.capn_layout.specs.Weight.{weight, weights, weights_in_rows}
use Rattle.capn_layout.proofs.shared.KeptLengths.{kept_words-le, kept_slots-le}
use Rattle.capn_layout.proofs.shared.Sound.{wide-words}

pub times-le : (i n k : ℕ) → i ≤ n → i * k ≤ n * k
times-le i n k le =
    let z : n ≡ i + (n - i) = omega arith in
    let e : n * k ≡ (i + (n - i)) * k = ap (λ (j : ℕ). j * k) z in
    let d : (i + (n - i)) * k ≡ i * k + (n - i) * k = omega arith in
    omega arith

-- Rows of `a` words and `b` slots each have `count_rows bs * (a + b)` words in all.
pub rows-words : (m : List (List ℕ)) (bs : Bodies) (a b s w : ℕ) → RowsAt m a b s w bs
    → row_words bs ≡ count_rows bs * (a + b)
rows-words m no_bodies a b s w i = omega arith
rows-words m (body ws ss bs) a b s w i =
    let r = rows-words m bs a b s (w + a + b) i.4 in
    let la = i.0 in
    let lb = i.1 in
    let k : suc (count_rows bs) * (a + b) ≡ a + b + count_rows bs * (a + b) = omega arith in
    omega arith

most-priced : (bs : Bodies) (k : ℕ) → row_words bs ≡ count_rows bs * k
    → max (count_rows bs) (row_words bs) ≤ rows_price bs
unfolding rows_price
most-priced bs k e = priced (row_words bs) (count_rows bs) k e
  where
    priced : (r n k : ℕ) → r ≡ n * k → max n r ≤ cond (r == 0) n r
    priced r zero k e = let z : r ≡ 0 = omega arith in grind (arith, nat_tests)
    priced r (suc n) zero e = let z : r ≡ 0 = omega arith in grind (arith, nat_tests)
    priced r (suc n) (suc k) e =
        let p : suc n * suc k ≡ suc n + suc n * k = omega arith in
        let q : suc n ≤ r = omega arith in
        grind (arith, nat_tests)

-- The size of a `Sound` value is at most the value's weight.
mutual
  pub size-weight : (v : Tree) → Sound v → size v ≤ weight v
  size-weight nil h = omega arith
  size-weight (cap k) h = omega arith
  size-weight (node ws ss) h =
      let x = kept_words-le ws in let y = kept_slots-le ss in let z = sizes-weight ss h.2 in omega arith
  size-weight (voids n) h = omega arith
  size-weight (numbers a xs) h = omega arith
  size-weight (links ts) h = let z = sizes-weight ts h.1 in omega arith
  size-weight (rows bs) h =
      let x = wide-words (kept_words_of_rows bs) (kept_slots_of_rows bs) bs h.4 in
      let z = sizes-rows-weight bs h.5 in
      omega arith

  sizes-weight : (ts : Trees) → Sounds ts → sizes ts ≤ weights ts
  sizes-weight no_trees h = omega arith
  sizes-weight (tree t ts) h = let x = size-weight t h.0 in let y = sizes-weight ts h.1 in omega arith

  sizes-rows-weight : (bs : Bodies) → SoundRows bs → sizes_in_rows bs ≤ weights_in_rows bs
  sizes-rows-weight no_bodies h = omega arith
  sizes-rows-weight (body ws ss bs) h =
      let x = sizes-weight ss h.0 in let y = sizes-rows-weight bs h.1 in omega arith

module _ (m : List (List ℕ)) (base : ℕ) where
  mutual
    pub weight-cost : (v : Tree) (at : Place) → IsAt m at v → weight v ≤ cost base v
    weight-cost nil at i = omega arith
    weight-cost (cap k) at i = omega arith
    weight-cost (node ws ss) at i =
        let x = weights-cost ss i.segment (i.start + length ws) i.inside.1 in omega arith
    weight-cost (voids n) at i = omega arith
    weight-cost (numbers a xs) at i = numbers-sized a base (length xs)
    weight-cost (links ts) at i = let x = weights-cost ts i.segment i.start i.inside in omega arith
    weight-cost (rows bs) at i =
        let n = i.3 in
        let x = weights-rows bs i.0 i.1 n.segment (suc n.start) n.inside in
        let y = most-priced bs (i.0 + i.1) (rows-words m bs i.0 i.1 n.segment (suc n.start) n.inside) in
        omega arith

    weights-cost : (ts : Trees) (s w : ℕ) → AreAt m s w ts → weights ts ≤ costs base ts
    weights-cost no_trees s w i = omega arith
    weights-cost (tree t ts) s w i =
        let x = weight-cost t (record { segment = s; word = w }) i.0 in
        let y = weights-cost ts s (suc w) i.1 in
        omega arith

    weights-rows : (bs : Bodies) (a b s w : ℕ) → RowsAt m a b s w bs → weights_in_rows bs ≤ costs_in_rows base bs
    weights-rows no_bodies a b s w i = omega arith
    weights-rows (body ws ss bs) a b s w i =
        let x = weights-cost ss s (w + a) i.3 in
        let y = weights-rows bs a b s (w + a + b) i.4 in
        omega arith

-- A value `v` at an existing word `w` of segment `s` is the value of the slot at that word.
pub at-slot : (m : List (List ℕ)) (s w : ℕ) (v : Tree) → IsMessage m → s < length m → w < length (segment_at m s)
    → IsAt m (record { segment = s; word = w }) v → HasSlot m s w v
at-slot m s w v message exists place at = record { message = message; exists = exists; place = place; at = at }
