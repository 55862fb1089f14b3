-- Lemmas for `first_value`, `read`, `read_next` and `texts`: a value that fits and is in range is showable.
use Rattle.std.proofs.Common.{◌≡◌, ℕ, ◌^◌, ◌<◌, false, List, length, arith}
use Rattle.std.specs.Prelude.{nat_lt}
use Rattle.std.proofs.lemmas.Bool.{or_parts, ltb-false}
use Rattle.capn_value.specs.Tree.{Tree, nil, node, voids, numbers, links, rows, cap, Trees}
use Rattle.capn_value.specs.Tree.{no_trees, tree, Bodies, no_bodies, body, count}
use Rattle.capn_value.specs.Fits.{Fits, anywhere, anywhere_in, anywhere_in_rows, is_wide, is_wide_body, has_wide_row}
use Rattle.capn_value.specs.Fits.{is_long}
use Rattle.capn_value.specs.Fits.{elements, words_in_rows}
use Rattle.capn_value.proofs.shared.Fitting.{fit_parts}
use Rattle.capn_value.specs.InRange.{InRange, EachInRange, RowsInRange}
use Rattle.capn_text.specs.Showable.{IsShowable, EachShowable, RowsShowable}

few : (t : Tree) → is_long t ≡ false → elements t < 2 ^ 64
few t h =
    let p = or_parts (nat_lt 536870911 (elements t)) (nat_lt 536870911 (words_in_rows t)) h in
    let le = ltb-false 536870911 (elements t) p.0 in
    omega arith

thin : (ws : List ℕ) (ss : Trees) → is_wide_body ws ss ≡ false → (length ws < 2 ^ 64) × (count ss < 2 ^ 64)
thin ws ss h =
    let p = or_parts (nat_lt 65535 (length ws)) (nat_lt 65535 (count ss)) h in
    let a = ltb-false 65535 (length ws) p.0 in
    let b = ltb-false 65535 (count ss) p.1 in
    (omega arith, omega arith)

mutual
  pub showable : (t : Tree) → anywhere is_wide t ≡ false → anywhere is_long t ≡ false → InRange t → IsShowable t
  showable nil w l r = tt
  showable (node ws ss) w l r =
      let a = or_parts (is_wide (node ws ss)) (anywhere_in is_wide ss) w in
      let b = or_parts (is_long (node ws ss)) (anywhere_in is_long ss) l in
      let sizes = thin ws ss a.0 in
      (sizes.0, sizes.1, r.0, each_showable ss a.1 b.1 r.1)
  showable (voids n) w l r = r
  showable (numbers a xs) w l r = (few (numbers a xs) l, r)
  showable (links ts) w l r =
      let a = or_parts (is_wide (links ts)) (anywhere_in is_wide ts) w in
      let b = or_parts (is_long (links ts)) (anywhere_in is_long ts) l in
      (few (links ts) b.0, each_showable ts a.1 b.1 r)
  showable (rows bs) w l r =
      let a = or_parts (is_wide (rows bs)) (anywhere_in_rows is_wide bs) w in
      let b = or_parts (is_long (rows bs)) (anywhere_in_rows is_long bs) l in
      (few (rows bs) b.0, rows_showable bs a.0 a.1 b.1 r)
  showable (cap k) w l r = r

  each_showable : (ts : Trees) → anywhere_in is_wide ts ≡ false → anywhere_in is_long ts ≡ false → EachInRange ts
      → EachShowable ts
  each_showable no_trees w l r = tt
  each_showable (tree t ts) w l r =
      let a = or_parts (anywhere is_wide t) (anywhere_in is_wide ts) w in
      let b = or_parts (anywhere is_long t) (anywhere_in is_long ts) l in
      (showable t a.0 b.0 r.0, each_showable ts a.1 b.1 r.1)

  rows_showable : (bs : Bodies) → has_wide_row bs ≡ false → anywhere_in_rows is_wide bs ≡ false
      → anywhere_in_rows is_long bs ≡ false → RowsInRange bs → RowsShowable bs
  rows_showable no_bodies f w l r = tt
  rows_showable (body ws ss bs) f w l r =
      let e = or_parts (is_wide_body ws ss) (has_wide_row bs) f in
      let a = or_parts (anywhere_in is_wide ss) (anywhere_in_rows is_wide bs) w in
      let b = or_parts (anywhere_in is_long ss) (anywhere_in_rows is_long bs) l in
      let sizes = thin ws ss e.0 in
      (sizes.0, sizes.1, r.0, each_showable ss a.0 b.0 r.1, rows_showable bs e.1 a.1 b.1 r.2)

pub showable-fit : (t : Tree) → Fits t → InRange t → IsShowable t
showable-fit t f r = showable t (fit_parts t f).narrow (fit_parts t f).short r

mutual
  pub in_range : (t : Tree) → IsShowable t → InRange t
  in_range nil s = tt
  in_range (node ws ss) s = (s.2, each_in_range ss s.3)
  in_range (voids n) s = s
  in_range (numbers a xs) s = s.1
  in_range (links ts) s = each_in_range ts s.1
  in_range (rows bs) s = rows_in_range bs s.1
  in_range (cap k) s = s

  each_in_range : (ts : Trees) → EachShowable ts → EachInRange ts
  each_in_range no_trees s = tt
  each_in_range (tree t ts) s = (in_range t s.0, each_in_range ts s.1)

  rows_in_range : (bs : Bodies) → RowsShowable bs → RowsInRange bs
  rows_in_range no_bodies s = tt
  rows_in_range (body ws ss bs) s = (s.2, each_in_range ss s.3, rows_in_range bs s.4)
