-- The canonical bytes of a value are a bare message: each word is below 2^64, and there are not too many words. (For
-- `CanonicalWords`, `DepthOfCanonical`, `EqualExactlySame` and capn_mismatch.)
use Rattle.std.proofs.Common.{◌≡◌, ℕ, zero, suc, ◌+◌, ◌-◌, ◌*◌, ◌/◌, ◌^◌, ◌<◌, ◌≤◌, ◌==◌, ◌&&◌, List}
use Rattle.std.proofs.Common.{[], ◌∷◌, ◌++◌, length, take, drop, pos, refl, arith}
use Rattle.std.proofs.Math.Nat.{pow-succ', pow-zero, one-le-pow, mul-le-mul_left}
use Rattle.capn_words.specs.Pointers.{word_of}
use Rattle.capn_words.specs.Message.{AreWords, IsBare, words_in}
use Rattle.capn_words.specs.declared.pointer.Pointer.{Pointer}
use Rattle.capn_words.specs.declared.pointer.Pointer.TheVariants.{Many, Cap}
use Rattle.capn_words.specs.declared.pointer.Width.{Width}
use Rattle.capn_words.specs.declared.pointer.Width.TheVariants.{W0, Link, Rows}
use Rattle.capn_words.proofs.shared.OneSegment.{bare_length, bare_only}
use Rattle.capn_value.specs.NumberWidth.{oct, bits_in, per_word}
use Rattle.capn_value.specs.Tree.{Tree, nil, node, voids, numbers, links, rows, cap, Trees}
use Rattle.capn_value.specs.Tree.{no_trees, tree, Bodies, no_bodies, body, count, count_rows}
use Rattle.capn_value.specs.Trim.{kept_words, kept_slots, kept_words_of_rows, kept_slots_of_rows}
use Rattle.capn_value.specs.Cost.{cost}
use Rattle.capn_value.specs.Fits.{Fits}
use Rattle.capn_value.specs.InRange.{AllBelow, InRange, EachInRange, RowsInRange}
use Rattle.capn_value.proofs.shared.Ranges.{below-take}
use Rattle.capn_layout.specs.Layout.{own, size, sizes, sizes_in_rows, row_size, list_to, struct_to, point, points}
use Rattle.capn_layout.specs.Layout.{number, packed, row_contents, lay, lays, lays_in_rows, words, canon}
use Rattle.capn_words.proofs.shared.Choices.{pick}
use Rattle.capn_words.proofs.shared.Pointers.{word_of-lt}
use Rattle.capn_layout.specs.Sound.{Sound, Sounds, SoundRows}
use Rattle.capn_layout.proofs.shared.KeptLengths.{kept_words-le, kept_slots-le}
use Rattle.capn_layout.proofs.shared.Sound.{below, sound}
use Rattle.capn_layout.proofs.shared.Room.{room}
use Rattle.capn_target.specs.Target.{list_width}

-- ---- lists of numbers below a bound

-- If all numbers of `xs` and all numbers of `ys` are below `most`, all numbers of `xs ++ ys` are below `most`.
pub below-append : (most : ℕ) (xs ys : List ℕ) → AllBelow most xs → AllBelow most ys → AllBelow most (xs ++ ys)
below-append most [] ys h k = k
below-append most (x ∷ xs) ys h k = (h.0, below-append most xs ys h.1 k)

-- If all numbers of `xs` are below `most`, the numbers of `xs` after the first `n` are below `most`.
pub below-drop : (most n : ℕ) (xs : List ℕ) → AllBelow most xs → AllBelow most (drop n xs)
below-drop most zero xs h = h
below-drop most (suc n) [] h = tt
below-drop most (suc n) (x ∷ xs) h = below-drop most n xs h.1

-- ---- elements packed into words

-- If all digits in `xs` are below `base`, the first `n` of them make a number below `base ^ n`.
digits-below : (base n : ℕ) (xs : List ℕ) → 0 < base → AllBelow base xs → number base (take n xs) < base ^ n
digits-below base zero xs p h = omega (arith, pow-zero base)
digits-below base (suc n) [] p h = omega (arith, one-le-pow (suc n) base p)
digits-below base (suc n) (x ∷ xs) p h =
    let ih : number base (take n xs) + 1 ≤ base ^ n = omega (arith, digits-below base n xs p h.1) in
    let m = mul-le-mul_left base ih in
    let e = pow-succ' base n in
    let l = h.0 in
    omega arith

packed-below : (each width n : ℕ) (xs : List ℕ) → 0 < 2 ^ width → (2 ^ width) ^ each ≤ 2 ^ 64 → AllBelow (2 ^ width) xs
    → AllBelow (2 ^ 64) (packed each width n xs)
packed-below each width zero xs p e h = tt
packed-below each width (suc n) xs p e h = (
  omega (arith, digits-below (2 ^ width) each xs p h),
  packed-below each width n (drop each xs) p e (below-drop (2 ^ width) each xs h),
)

-- ---- pointers

list-below : (from to c : ℕ) (k : Width) → to ≤ 2 ^ 29 → c < 2 ^ 29 → list_to from to k c < 2 ^ 64
list-below from to c k ht hc = word_of-lt (Many (pos (to - suc from)) k c) (omega arith, hc)

struct-below : (from to a b : ℕ) → to ≤ 2 ^ 29 → a < 2 ^ 16 → b < 2 ^ 16 → struct_to from to a b < 2 ^ 64
struct-below from to a b ht ha hb =
    pick (λ (p : Pointer). word_of p < 2 ^ 64) ((a == 0) && (b == 0)) _ _ (λ e. omega arith) (λ e. omega arith)

-- If `v` is sound and its content starts at word 2^29 at the latest, the pointer of `v` is below 2^64.
point-below : (v : Tree) (from to : ℕ) → Sound v → to ≤ 2 ^ 29 → point v from to < 2 ^ 64
unfolding point
point-below nil from to h l = omega arith
point-below (node ws ss) from to h l =
    struct-below from to (kept_words ws) (kept_slots ss) l (omega (arith, kept_words-le ws, h.0))
    (omega (arith, kept_slots-le ss, h.1))
point-below (voids n) from to h l = list-below from to n W0 l h
point-below (numbers a xs) from to h l = list-below from to (length xs) (list_width a) l h.0
point-below (links ts) from to h l = list-below from to (count ts) Link l h.0
point-below (rows bs) from to h l = list-below from to (count_rows bs * row_size bs) Rows l h.3
point-below (cap k) from to h l = word_of-lt (Cap k) h

points-below : (ts : Trees) (from to : ℕ) → Sounds ts → to + sizes ts ≤ 2 ^ 29 → AllBelow (2 ^ 64) (points ts from to)
points-below no_trees from to h l = tt
points-below (tree t ts) from to h l =
    (point-below t from to h.0 (omega arith), points-below ts (suc from) (to + size t) h.1 (omega arith))

row_contents-below : (a b : ℕ) (bs : Bodies) (from to : ℕ) → SoundRows bs → RowsInRange bs
    → to + sizes_in_rows bs ≤ 2 ^ 29 → AllBelow (2 ^ 64) (row_contents a b bs from to)
row_contents-below a b no_bodies from to h r l = tt
row_contents-below a b (body ws ss bs) from to h r l =
    below-append (2 ^ 64) (take a ws)
    (take b (points ss (from + a) to) ++ row_contents a b bs (from + a + b) (to + sizes ss))
    (below-take (2 ^ 64) a ws r.0)
    (below-append (2 ^ 64) (take b (points ss (from + a) to)) (row_contents a b bs (from + a + b) (to + sizes ss))
    (below-take (2 ^ 64) b (points ss (from + a) to) (points-below ss (from + a) to h.0 (omega arith)))
    (row_contents-below a b bs (from + a + b) (to + sizes ss) h.1 r.2 (omega arith)))

-- ---- layouts

-- If `v` is in range and its layout ends at word 2^29 at the latest, the words of the layout are below 2^64.
mutual
  pub lay-below : (v : Tree) (at : ℕ) → Sound v → InRange v → at + size v ≤ 2 ^ 29 → AllBelow (2 ^ 64) (lay v at)
  lay-below nil at h r l = tt
  lay-below (cap k) at h r l = tt
  lay-below (node ws ss) at h r l =
      let to = at + own (node ws ss) in
      below-append (2 ^ 64) (take (kept_words ws) ws)
      (take (kept_slots ss) (points ss (at + kept_words ws) to) ++ lays ss to)
      (below-take (2 ^ 64) (kept_words ws) ws r.0)
      (below-append (2 ^ 64) (take (kept_slots ss) (points ss (at + kept_words ws) to)) (lays ss to)
      (below-take (2 ^ 64) (kept_slots ss) (points ss (at + kept_words ws) to)
      (points-below ss (at + kept_words ws) to h.2 (omega arith))) (lays-below ss to h.2 r.1 (omega arith)))
  lay-below (voids n) at h r l = tt
  lay-below (numbers oct xs) at h r l = r
  lay-below (numbers a xs) at h r l =
      packed-below (per_word a) (bits_in a) (own (numbers a xs)) xs (omega arith) (omega arith) r
  lay-below (links ts) at h r l =
      below-append (2 ^ 64) (points ts at (at + count ts)) (lays ts (at + count ts))
      (points-below ts at (at + count ts) h.1 (omega arith)) (lays-below ts (at + count ts) h.1 r (omega arith))
  lay-below (rows bs) at h r l =
      let a = kept_words_of_rows bs in
      let b = kept_slots_of_rows bs in
      let to = at + own (rows bs) in
      let ha = h.1 in
      let hb = h.2 in
      let hc = h.0 in (
        omega arith,
        below-append (2 ^ 64) (row_contents a b bs (suc at) to) (lays_in_rows bs to)
            (row_contents-below a b bs (suc at) to h.5 r (omega arith)) (lays_in_rows-below bs to h.5 r (omega arith)),
      )

  lays-below : (ts : Trees) (at : ℕ) → Sounds ts → EachInRange ts → at + sizes ts ≤ 2 ^ 29
      → AllBelow (2 ^ 64) (lays ts at)
  lays-below no_trees at h r l = tt
  lays-below (tree t ts) at h r l =
      below-append (2 ^ 64) (lay t at) (lays ts (at + size t)) (lay-below t at h.0 r.0 (omega arith))
      (lays-below ts (at + size t) h.1 r.1 (omega arith))

  lays_in_rows-below : (bs : Bodies) (at : ℕ) → SoundRows bs → RowsInRange bs → at + sizes_in_rows bs ≤ 2 ^ 29
      → AllBelow (2 ^ 64) (lays_in_rows bs at)
  lays_in_rows-below no_bodies at h r l = tt
  lays_in_rows-below (body ws ss bs) at h r l =
      below-append (2 ^ 64) (lays ss at) (lays_in_rows bs (at + sizes ss)) (lays-below ss at h.0 r.1 (omega arith))
      (lays_in_rows-below bs (at + sizes ss) h.1 r.2 (omega arith))

-- ---- canonical words and bytes

-- If `v` fits and is in range, each of its canonical words is below 2^64.
pub words_are_words : (v : Tree) → Fits v → InRange v → AreWords (words v)
unfolding words
words_are_words v f r =
    let s = sound v f r in
    let m = room v f r in
    let n = m.0 in
    let k = m.2 in
    below (2 ^ 64) (omega arith) (point v 0 1 ∷ lay v 1) (
      point-below v 0 1 s (omega arith),
      lay-below v 1 s r (omega arith),
    )

-- If `v` fits and is in range, its canonical bytes are a bare message of its canonical words.
pub canon_is_bare : (v : Tree) → Fits v → InRange v → IsBare (canon v) (words v)
canon_is_bare v f r = record { same = refl; each = words_are_words v f r; room = (room v f r).2 }

-- If `v` fits and is in range, the words that its canonical bytes encode are its canonical words.
pub words_in_canon : (v : Tree) → Fits v → InRange v → words_in (length (canon v) / 8) (canon v) ≡ words v
words_in_canon v f r = bare_only (canon v) (words v) (canon_is_bare v f r)

-- If `v` fits and is in range, `canon v` has 8 bytes for the pointer of the root and 8 for each word of `size v`. These
-- are at most `8 * (cost base v + 1)` bytes.
pub canon_length : (v : Tree) (base : ℕ) → Fits v → InRange v → (length (canon v) ≡ 8 * (1 + size v))
    × (length (canon v) ≤ 8 * (cost base v + 1))
canon_length v base f r =
    let l = bare_length (canon v) (words v) (canon_is_bare v f r) in
    let m = room v f r in
    let n = m.0 in
    let k = m.1 base in
    (omega arith, omega arith)
