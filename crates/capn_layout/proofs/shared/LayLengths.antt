-- Lemmas on lengths: the layout of a `Sound` value has as many words as the value's size. (For the cycle `objects`, the
-- cycle `sizes`, `append_numbers`, `count_words`, capn_canon and capn_mismatch.)
use Rattle.std.proofs.Common.{◌≡◌, ℕ, zero, suc, ◌+◌, ◌*◌, ◌≤◌, List, ◌++◌, length, take, drop, refl, ap, ◌∙◌}
use Rattle.std.proofs.Common.{arith, length-append}
use Rattle.std.proofs.lemmas.List.{length-take-le}
use Rattle.capn_value.specs.NumberWidth.{oct, bits_in, per_word}
use Rattle.capn_value.specs.Tree.{Tree, nil, node, voids, numbers, links, rows, cap, Trees}
use Rattle.capn_value.specs.Tree.{no_trees, tree, Bodies, no_bodies, body, count, count_rows}
use Rattle.capn_value.specs.Trim.{kept_words, kept_slots, kept_words_of_rows, kept_slots_of_rows}
use Rattle.capn_layout.specs.Layout.{own, size, sizes, sizes_in_rows, points, row_contents, lay, lays, lays_in_rows}
use Rattle.capn_layout.specs.Layout.{packed}
use Rattle.capn_layout.specs.Sound.{AreWide, Sound, Sounds, SoundRows}
use Rattle.capn_layout.proofs.shared.KeptLengths.{kept_words-le, kept_slots-le}

pub length-packed : (each width n : ℕ) (xs : List ℕ) → length (packed each width n xs) ≡ n
length-packed each width zero xs = refl
length-packed each width (suc n) xs = ap suc (length-packed each width n (drop each xs))

pub length-points : (ts : Trees) (from to : ℕ) → length (points ts from to) ≡ count ts
length-points no_trees from to = refl
length-points (tree t ts) from to = ap suc (length-points ts (suc from) (to + size t))

pub length-cut : (k : ℕ) (ts : Trees) (from to : ℕ) → k ≤ count ts → length (take k (points ts from to)) ≡ k
length-cut k ts from to h = length-take-le k (points ts from to) (let e = length-points ts from to in omega arith)

pub length-row_contents : (a b : ℕ) (bs : Bodies) (from to : ℕ) → AreWide a b bs
    → length (row_contents a b bs from to) ≡ count_rows bs * (a + b)
length-row_contents a b no_bodies from to h = omega arith
length-row_contents a b (body ws ss bs) from to h =
    let x = length-take-le a ws h.0 in
    let y = length-cut b ss (from + a) to h.1 in
    let z = length-row_contents a b bs (from + a + b) (to + sizes ss) h.2 in
    let u = length-append (take a ws)
    (take b (points ss (from + a) to) ++ row_contents a b bs (from + a + b) (to + sizes ss)) in
    let v = length-append (take b (points ss (from + a) to)) (row_contents a b bs (from + a + b) (to + sizes ss)) in
    u ∙ omega arith

mutual
  pub length-lay : (v : Tree) (at : ℕ) → Sound v → length (lay v at) ≡ size v
  length-lay nil at h = refl
  length-lay (cap k) at h = refl
  length-lay (node ws ss) at h =
      let x = length-take-le (kept_words ws) ws (kept_words-le ws) in
      let y = length-cut (kept_slots ss) ss (at + kept_words ws) (at + own (node ws ss)) (kept_slots-le ss) in
      let z = length-lays ss (at + own (node ws ss)) h.2 in
      let u = length-append (take (kept_words ws) ws)
      (take (kept_slots ss) (points ss (at + kept_words ws) (at + own (node ws ss)))
      ++ lays ss (at + own (node ws ss))) in
      let v = length-append (take (kept_slots ss) (points ss (at + kept_words ws) (at + own (node ws ss))))
      (lays ss (at + own (node ws ss))) in
      u ∙ omega arith
  length-lay (voids n) at h = refl
  length-lay (numbers oct xs) at h = refl
  length-lay (numbers a xs) at h = length-packed (per_word a) (bits_in a) (own (numbers a xs)) xs
  length-lay (links ts) at h =
      let x = length-points ts at (at + count ts) in
      let y = length-lays ts (at + count ts) h.1 in
      let z = length-append (points ts at (at + count ts)) (lays ts (at + count ts)) in
      z ∙ omega arith
  length-lay (rows bs) at h =
      let x = length-row_contents (kept_words_of_rows bs) (kept_slots_of_rows bs) bs (suc at) (at + own (rows bs))
      h.4 in
      let y = length-lays_in_rows bs (at + own (rows bs)) h.5 in
      let z = length-append
      (row_contents (kept_words_of_rows bs) (kept_slots_of_rows bs) bs (suc at) (at + own (rows bs)))
      (lays_in_rows bs (at + own (rows bs))) in
      omega arith

  pub length-lays : (ts : Trees) (at : ℕ) → Sounds ts → length (lays ts at) ≡ sizes ts
  length-lays no_trees at h = refl
  length-lays (tree t ts) at h =
      let x = length-lay t at h.0 in
      let y = length-lays ts (at + size t) h.1 in
      let z = length-append (lay t at) (lays ts (at + size t)) in
      z ∙ omega arith

  pub length-lays_in_rows : (bs : Bodies) (at : ℕ) → SoundRows bs → length (lays_in_rows bs at) ≡ sizes_in_rows bs
  length-lays_in_rows no_bodies at h = refl
  length-lays_in_rows (body ws ss bs) at h =
      let x = length-lays ss at h.0 in
      let y = length-lays_in_rows bs (at + sizes ss) h.1 in
      let z = length-append (lays ss at) (lays_in_rows bs (at + sizes ss)) in
      z ∙ omega arith
