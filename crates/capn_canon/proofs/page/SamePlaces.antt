-- A value at a place that is the same as a value that fits is neither wide, nor long, nor ragged, at any level. (For
-- `ThePage`.)
use Rattle.std.proofs.Common.{◌≡◌, ℕ, suc, ◌+◌, ◌^◌, ◌<◌, false, List, length, refl, ap, sym, subst, arith, nat_lt}
use Rattle.std.proofs.lemmas.Bool.{or_parts, ltb-false}
use Rattle.capn_words.specs.declared.space.Place.{Place}
use Rattle.capn_words.specs.declared.pointer.Width.TheVariants.{W0, Link}
use Rattle.capn_value.specs.Tree.{Tree, nil, node, voids, numbers, links, rows, cap, Trees}
use Rattle.capn_value.specs.Tree.{no_trees, tree, Bodies, no_bodies, body, count, count_rows, row_words}
use Rattle.capn_value.specs.Same.{Same, SameSlots, SameEach, SameRows}
use Rattle.capn_value.specs.Fits.{anywhere, anywhere_in, anywhere_in_rows, is_wide, is_long, is_ragged}
use Rattle.capn_value.specs.Fits.{elements, words_in_rows}
use Rattle.capn_target.specs.declared.target.Shape.TheVariants as shapes
use Rattle.capn_target.specs.Target.{list_width}
use Rattle.capn_target.proofs.shared.Inside.{inside}
use Rattle.capn_target.proofs.shared.Ranges.{room-of}
use Rattle.capn_walk.specs.ValueAt.{IsAt, AreAt, RowsAt}
use Rattle.capn_walk.proofs.shared.Fitting.{Parts, joined, not-wide, not-long, not-ragged, rows-of}

rows-counted : (bs cs : Bodies) → SameRows bs cs → count_rows bs ≡ count_rows cs
rows-counted no_bodies no_bodies h = refl
rows-counted (body ws ss bs) (body vs ts cs) h = ap suc (rows-counted bs cs h.2)
rows-counted _ _ h = absurd h

few-elements : (t : Tree) → is_long t ≡ false → elements t < 2 ^ 29
few-elements t h =
    let p = or_parts (nat_lt 536870911 (elements t)) (nat_lt 536870911 (words_in_rows t)) h in
    omega (arith, ltb-false 536870911 (elements t) p.0)

null-same : (t : Tree) → t ≡ nil → Same t nil
null-same t e = subst (λ (u : Tree). Same u nil) (sym e) tt

module _ (m : List (List ℕ)) where
  mutual
    -- the value `v` at the place `at`, which is the same as a value `u` that isn't long
    pub parts-same : (v u : Tree) (at : Place) → Same v u → anywhere is_long u ≡ false → IsAt m at v
        → Parts m (anywhere is_wide v) (anywhere is_long v) (anywhere is_ragged v)
    parts-same nil u at s l h = record { narrow = refl; short = refl; even = refl }
    parts-same (cap k) u at s l h = record { narrow = refl; short = refl; even = refl }
    parts-same (voids n) u at s l h =
        let r = room-of m at h.segment h.start h.pads (shapes.Many W0 n) h.is in
        record { narrow = refl; short = not-long (voids n) r (omega arith); even = refl }
    parts-same (numbers a xs) u at s l h =
        let r = room-of m at h.segment h.start h.pads (shapes.Many (list_width a) (length xs)) h.is in
        record { narrow = refl; short = not-long (numbers a xs) r (omega arith); even = refl }
    parts-same (node ws ss) (node vs ts) at s l h =
        let r = room-of m at h.segment h.start h.pads (shapes.Node (length ws) (count ss)) h.is in
        let k = or_parts (is_long (node vs ts)) (anywhere_in is_long ts) l in
        joined m _ _ _ _ _ _ (not-wide ws ss r.0 r.1) refl refl
        (slots-same ss ts h.segment (h.start + length ws) s.1 k.1 h.inside.1)
    parts-same (links ss) (links ts) at s l h =
        let r = room-of m at h.segment h.start h.pads (shapes.Many Link (count ss)) h.is in
        let k = or_parts (is_long (links ts)) (anywhere_in is_long ts) l in
        joined m _ _ _ _ _ _ refl (not-long (links ss) r (omega arith)) refl
        (each-same ss ts h.segment h.start s k.1 h.inside)
    parts-same (rows bs) (rows cs) at s l h =
        let a = h.0 in
        let b = h.1 in
        let span = h.2 in
        let n = h.3 in
        let r = room-of m at n.segment n.start n.pads (shapes.Rows (count_rows bs) a b span) n.is in
        let fit = (inside m at n.segment n.start n.pads (shapes.Rows (count_rows bs) a b span) n.is).1 in
        let rs = rows-of m bs a b n.segment (suc n.start) r.1 r.2 n.inside in
        let e = not-ragged a b bs rs.even in
        let k = rs.words in
        let room = r.3 in
        let w : row_words bs < 2 ^ 29 = omega arith in
        let long = or_parts (is_long (rows cs)) (anywhere_in_rows is_long cs) l in
        let many = rows-counted bs cs s in
        let few = few-elements (rows cs) long.0 in
        let c : count_rows bs < 2 ^ 29 = omega arith in
        joined m _ _ _ _ _ _ rs.narrow (not-long (rows bs) c w) e
        (rows-same bs cs a b n.segment (suc n.start) s long.1 n.inside)
    parts-same _ _ at s l h = absurd s

    slots-same : (ss ts : Trees) (segment word : ℕ) → SameSlots ss ts → anywhere_in is_long ts ≡ false
        → AreAt m segment word ss
        → Parts m (anywhere_in is_wide ss) (anywhere_in is_long ss) (anywhere_in is_ragged ss)
    slots-same no_trees ts s w e l h = record { narrow = refl; short = refl; even = refl }
    slots-same (tree v ss) no_trees s w e l h =
        let p = parts-same v nil (record { segment = s; word = w }) (null-same v e.0) refl h.0 in
        joined m _ _ _ _ _ _ p.narrow p.short p.even (slots-same ss no_trees s (suc w) e.1 refl h.1)
    slots-same (tree v ss) (tree u ts) s w e l h =
        let k = or_parts (anywhere is_long u) (anywhere_in is_long ts) l in
        let p = parts-same v u (record { segment = s; word = w }) e.0 k.0 h.0 in
        joined m _ _ _ _ _ _ p.narrow p.short p.even (slots-same ss ts s (suc w) e.1 k.1 h.1)

    each-same : (ss ts : Trees) (segment word : ℕ) → SameEach ss ts → anywhere_in is_long ts ≡ false
        → AreAt m segment word ss
        → Parts m (anywhere_in is_wide ss) (anywhere_in is_long ss) (anywhere_in is_ragged ss)
    each-same no_trees ts s w e l h = record { narrow = refl; short = refl; even = refl }
    each-same (tree v ss) no_trees s w e l h = absurd e
    each-same (tree v ss) (tree u ts) s w e l h =
        let k = or_parts (anywhere is_long u) (anywhere_in is_long ts) l in
        let p = parts-same v u (record { segment = s; word = w }) e.0 k.0 h.0 in
        joined m _ _ _ _ _ _ p.narrow p.short p.even (each-same ss ts s (suc w) e.1 k.1 h.1)

    rows-same : (bs cs : Bodies) (a b segment word : ℕ) → SameRows bs cs → anywhere_in_rows is_long cs ≡ false
        → RowsAt m a b segment word bs
        → Parts m (anywhere_in_rows is_wide bs) (anywhere_in_rows is_long bs) (anywhere_in_rows is_ragged bs)
    rows-same no_bodies cs a b s w e l h = record { narrow = refl; short = refl; even = refl }
    rows-same (body ws ss bs) no_bodies a b s w e l h = absurd e
    rows-same (body ws ss bs) (body vs ts cs) a b s w e l h =
        let k = or_parts (anywhere_in is_long ts) (anywhere_in_rows is_long cs) l in
        let p = slots-same ss ts s (w + a) e.1 k.0 h.3 in
        joined m _ _ _ _ _ _ p.narrow p.short p.even (rows-same bs cs a b s (w + a + b) e.2 k.1 h.4)
