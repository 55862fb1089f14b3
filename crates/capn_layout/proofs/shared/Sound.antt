-- A value that fits and is in range is sound. (For `layout`, capn_c, capn_canon and capn_mismatch.)
use Rattle.std.proofs.Common.{◌≡◌, ℕ, zero, suc, ◌+◌, ◌*◌, ◌^◌, ◌<◌, ◌≤◌, ◌==◌, ◌&&◌, nat_lt, true, false, List, []}
use Rattle.std.proofs.Common.{◌∷◌, length, arith}
use Rattle.std.proofs.lemmas.Bool.{or_parts, and_parts, eqb-true, ltb-false, not-false}
use Rattle.capn_value.specs.NumberWidth.{NumberWidth, bit, byte, pair, quad, oct, bits_in}
use Rattle.capn_value.specs.Tree.{Tree, nil, node, voids, numbers, links, rows, cap, Trees}
use Rattle.capn_value.specs.Tree.{no_trees, tree, Bodies, no_bodies, body, count, count_rows, row_words}
use Rattle.capn_value.specs.Trim.{kept_words_of_rows, kept_slots_of_rows}
use Rattle.capn_value.specs.Fits.{Fits, anywhere, anywhere_in, anywhere_in_rows, is_wide, is_wide_body, has_wide_row}
use Rattle.capn_value.specs.Fits.{is_long, is_ragged, are_even, elements, words_in_rows}
use Rattle.capn_value.proofs.shared.Fitting.{fit_parts}
use Rattle.capn_value.specs.InRange.{AllBelow, InRange, EachInRange, RowsInRange}
use Rattle.capn_layout.specs.Sound.{AreBelow, AreWide, Sound, Sounds, SoundRows}
use Rattle.capn_layout.proofs.shared.KeptLengths.{kept_words-le, kept_slots-le}

-- ---- numbers below a base, given by index

pub below : (base : ℕ) → 0 < base → (xs : List ℕ) → AllBelow base xs → AreBelow base xs
below base p [] h i = p
below base p (x ∷ xs) h zero = h.0
below base p (x ∷ xs) h (suc i) = below base p xs h.1 i

-- ---- rows

narrow-body : (ws : List ℕ) (ss : Trees) → is_wide_body ws ss ≡ false → (length ws < 2 ^ 16) × (count ss < 2 ^ 16)
narrow-body ws ss h =
    let p = or_parts (nat_lt 65535 (length ws)) (nat_lt 65535 (count ss)) h in
    (omega (arith, ltb-false 65535 (length ws) p.0), omega (arith, ltb-false 65535 (count ss) p.1))

narrow-rows : (bs : Bodies) → has_wide_row bs ≡ false → (kept_words_of_rows bs < 2 ^ 16)
    × (kept_slots_of_rows bs < 2 ^ 16)
narrow-rows no_bodies h = (omega arith, omega arith)
narrow-rows (body ws ss bs) h =
    let p = or_parts (is_wide_body ws ss) (has_wide_row bs) h in
    let one = narrow-body ws ss p.0 in
    let rest = narrow-rows bs p.1 in
    (omega (arith, kept_words-le ws, one.0, rest.0), omega (arith, kept_slots-le ss, one.1, rest.1))

even-kept : (w s : ℕ) (bs : Bodies) → are_even w s bs ≡ true → (kept_words_of_rows bs ≤ w) × (kept_slots_of_rows bs ≤ s)
even-kept w s no_bodies h = (omega arith, omega arith)
even-kept w s (body ws ss bs) h =
    let p = and_parts ((length ws == w) && (count ss == s)) (are_even w s bs) h in
    let q = and_parts (length ws == w) (count ss == s) p.0 in
    let rest = even-kept w s bs p.1 in (
      omega (arith, kept_words-le ws, eqb-true (length ws) w q.0, rest.0),
      omega (arith, kept_slots-le ss, eqb-true (count ss) s q.1, rest.1),
    )

even-wide : (a b w s : ℕ) (bs : Bodies) → a ≤ w → b ≤ s → are_even w s bs ≡ true → AreWide a b bs
even-wide a b w s no_bodies ha hb h = tt
even-wide a b w s (body ws ss bs) ha hb h =
    let p = and_parts ((length ws == w) && (count ss == s)) (are_even w s bs) h in
    let q = and_parts (length ws == w) (count ss == s) p.0 in (
      omega (arith, eqb-true (length ws) w q.0),
      omega (arith, eqb-true (count ss) s q.1),
      even-wide a b w s bs ha hb p.1,
    )

-- If `rows bs` isn't ragged (`is_ragged`), each row has at least `kept_words_of_rows bs` words and
-- `kept_slots_of_rows bs` slots.
pub wide-rows : (bs : Bodies) → is_ragged (rows bs) ≡ false → AreWide (kept_words_of_rows bs) (kept_slots_of_rows bs) bs
wide-rows no_bodies h = tt
wide-rows (body ws ss bs) h =
    let e = not-false _ h in
    let k = even-kept (length ws) (count ss) bs e in
    let a : kept_words_of_rows (body ws ss bs) ≤ length ws = omega (arith, kept_words-le ws, k.0) in
    let b : kept_slots_of_rows (body ws ss bs) ≤ count ss = omega (arith, kept_slots-le ss, k.1) in (
      a,
      b,
      even-wide (kept_words_of_rows (body ws ss bs)) (kept_slots_of_rows (body ws ss bs)) (length ws) (count ss) bs
          a b e,
    )

-- If each row of `bs` has at least `a` words and `b` slots, `bs` has at least `count_rows bs * (a + b)` words in all.
pub wide-words : (a b : ℕ) (bs : Bodies) → AreWide a b bs → count_rows bs * (a + b) ≤ row_words bs
wide-words a b no_bodies h = omega arith
wide-words a b (body ws ss bs) h =
    let x = wide-words a b bs h.2 in
    let y = h.0 in
    let z = h.1 in
    let m : suc (count_rows bs) * (a + b) ≡ a + b + count_rows bs * (a + b) = omega arith in
    omega arith

-- ---- values

short-list : (t : Tree) → is_long t ≡ false → (elements t < 2 ^ 29) × (words_in_rows t < 2 ^ 29)
short-list t h =
    let p = or_parts (nat_lt 536870911 (elements t)) (nat_lt 536870911 (words_in_rows t)) h in
    (omega (arith, ltb-false 536870911 (elements t) p.0), omega (arith, ltb-false 536870911 (words_in_rows t) p.1))

positive : (k : NumberWidth) → 0 < 2 ^ bits_in k
positive bit = omega arith
positive byte = omega arith
positive pair = omega arith
positive quad = omega arith
positive oct = omega arith

mutual
  pub sound-parts : (t : Tree) → anywhere is_wide t ≡ false → anywhere is_long t ≡ false → anywhere is_ragged t ≡ false
      → InRange t → Sound t
  sound-parts nil a b c r = tt
  sound-parts (cap k) a b c r = r
  sound-parts (node ws ss) a b c r =
      let x = or_parts (is_wide_body ws ss) (anywhere_in is_wide ss) a in
      let y = or_parts (is_long (node ws ss)) (anywhere_in is_long ss) b in
      let z = or_parts (is_ragged (node ws ss)) (anywhere_in is_ragged ss) c in
      let n = narrow-body ws ss x.0 in
      (n.0, n.1, sounds-parts ss x.1 y.1 z.1 r.1)
  sound-parts (voids n) a b c r = (short-list (voids n) b).0
  sound-parts (numbers k xs) a b c r =
      ((short-list (numbers k xs) b).0, below (2 ^ bits_in k) (positive k) xs r)
  sound-parts (links ts) a b c r =
      let x = or_parts (is_wide (links ts)) (anywhere_in is_wide ts) a in
      let y = or_parts (is_long (links ts)) (anywhere_in is_long ts) b in
      let z = or_parts (is_ragged (links ts)) (anywhere_in is_ragged ts) c in
      ((short-list (links ts) y.0).0, sounds-parts ts x.1 y.1 z.1 r)
  sound-parts (rows bs) a b c r =
      let x = or_parts (is_wide (rows bs)) (anywhere_in_rows is_wide bs) a in
      let y = or_parts (is_long (rows bs)) (anywhere_in_rows is_long bs) b in
      let z = or_parts (is_ragged (rows bs)) (anywhere_in_rows is_ragged bs) c in
      let n = narrow-rows bs x.0 in
      let s = short-list (rows bs) y.0 in
      let w = wide-rows bs z.0 in (
        s.0,
        n.0,
        n.1,
        omega (arith, wide-words (kept_words_of_rows bs) (kept_slots_of_rows bs) bs w, s.1),
        w,
        sound-rows-parts bs x.1 y.1 z.1 r,
      )

  sounds-parts : (ts : Trees) → anywhere_in is_wide ts ≡ false → anywhere_in is_long ts ≡ false
      → anywhere_in is_ragged ts ≡ false → EachInRange ts → Sounds ts
  sounds-parts no_trees a b c r = tt
  sounds-parts (tree t ts) a b c r =
      let x = or_parts (anywhere is_wide t) (anywhere_in is_wide ts) a in
      let y = or_parts (anywhere is_long t) (anywhere_in is_long ts) b in
      let z = or_parts (anywhere is_ragged t) (anywhere_in is_ragged ts) c in
      (sound-parts t x.0 y.0 z.0 r.0, sounds-parts ts x.1 y.1 z.1 r.1)

  sound-rows-parts : (bs : Bodies) → anywhere_in_rows is_wide bs ≡ false → anywhere_in_rows is_long bs ≡ false
      → anywhere_in_rows is_ragged bs ≡ false →
      RowsInRange bs → SoundRows bs
  sound-rows-parts no_bodies a b c r = tt
  sound-rows-parts (body ws ss bs) a b c r =
      let x = or_parts (anywhere_in is_wide ss) (anywhere_in_rows is_wide bs) a in
      let y = or_parts (anywhere_in is_long ss) (anywhere_in_rows is_long bs) b in
      let z = or_parts (anywhere_in is_ragged ss) (anywhere_in_rows is_ragged bs) c in
      (sounds-parts ss x.0 y.0 z.0 r.1, sound-rows-parts bs x.1 y.1 z.1 r.2)

-- A value that fits and is in range is `Sound`.
pub sound : (t : Tree) → Fits t → InRange t → Sound t
sound t f r = let p = fit_parts t f in sound-parts t p.narrow p.short p.even r
