-- The canonical words of a value have the trimmed value at the root. Their walk pays exactly the cost of the trimmed
-- value. (For `EqualExactlySame`, `ReadBare` and `ThePage`.)
use Rattle.std.proofs.Common.{◌≡◌, ℕ, zero, suc, ◌+◌, ◌*◌, ◌^◌, ◌<◌, ◌≤◌, List, [], ◌∷◌, ◌++◌}
use Rattle.std.proofs.Common.{length, take, slice_index, Ok, pos, refl, ap, sym, subst, ◌∙◌, arith}
use Rattle.std.proofs.lemmas.List.{length-take-le, append-nil}
use Rattle.std.proofs.Math.Seq.{take-length}
use Rattle.capn_words.specs.Pointers.{word_of}
use Rattle.capn_words.specs.declared.pointer.Pointer.TheVariants.{Node}
use Rattle.capn_words.specs.declared.pointer.Width.TheVariants.{W0, W64, Link}
use Rattle.capn_value.specs.NumberWidth.{oct, bits_in, per_word}
use Rattle.capn_value.specs.Tree.{Tree, nil, node, voids, numbers, links, rows, cap, Trees}
use Rattle.capn_value.specs.Tree.{no_trees, tree, Bodies, no_bodies, body, count, count_rows, front}
use Rattle.capn_value.proofs.shared.Trimmed.{count-trimmed_each, count-trimmed_rows}
use Rattle.capn_value.specs.Trim.{kept_words, kept_slots, kept_words_of_rows, kept_slots_of_rows, trimmed, trimmed_each}
use Rattle.capn_value.specs.Trim.{trimmed_rows}
use Rattle.capn_target.specs.declared.target.Target.TheVariants as targets
use Rattle.capn_target.specs.declared.target.Shape.TheVariants as shapes
use Rattle.capn_target.specs.Target.{list_width}
use Rattle.capn_walk.specs.ValueAt.{IsAt, AreWordsAt}
use Rattle.capn_walk.specs.Visits.{visits}
use Rattle.capn_value.specs.Cost.{height, cost}
use Rattle.capn_canon.proofs.reading.Tight.{TightAt, AreTight, TightRows, loosen, Pays, exact}
use Rattle.capn_layout.specs.Layout.{own, size, sizes, point, points, row_contents, lay, lays, lays_in_rows, words}
use Rattle.capn_canon.proofs.reading.OneSegment.{here, names-null, names-cap}
use Rattle.capn_canon.proofs.reading.LaidPointers.{struct-at, list-names, elements-at, rows-names}
use Rattle.capn_canon.proofs.reading.StandsIn.{Has, has-front, has-back, has-room, has-words, has-word}
use Rattle.capn_layout.specs.Sound.{AreWide, Sound, Sounds, SoundRows}
use Rattle.capn_layout.proofs.shared.KeptLengths.{kept_words-le, kept_slots-le}
use Rattle.capn_layout.proofs.shared.LayLengths.{length-points, length-cut, length-row_contents, length-lay}
use Rattle.capn_layout.proofs.shared.LayLengths.{length-lays}

count-front : (n : ℕ) (ts : Trees) → n ≤ count ts → count (front n ts) ≡ n
count-front zero ts h = refl
count-front (suc n) no_trees h = absurd (omega arith)
count-front (suc n) (tree t ts) h = ap suc (count-front n ts (omega arith))

front-all : (ts : Trees) → front (count ts) ts ≡ ts
front-all no_trees = refl
front-all (tree t ts) = ap (tree t) (front-all ts)

module _ (all : List ℕ) (small : length all ≤ 2 ^ 29) where
  abbrev only : List (List ℕ)
  only = all ∷ []

  row-at : (a b from : ℕ) (xs : List ℕ) (ts : Trees) (bs : Bodies) → length xs ≡ a → count ts ≡ b
      → AreWordsAt only 0 from xs → AreTight only 0 (from + a) ts →
      TightRows only a b 0 (from + a + b) bs → TightRows only a b 0 from (body xs ts bs)
  row-at a b from xs ts bs la lb ws ss h = (la, lb, ws, ss, h)

  shifted : (p q : ℕ) (xs : List ℕ) → p ≡ q → Has all p xs → Has all q xs
  shifted p q xs e h = subst (λ (w : ℕ). Has all w xs) e h

  mutual
    unfolding point

    reads : (v : Tree) (from at : ℕ) → Sound v → from < at → slice_index all from ≡ point v from at
        → Has all at (lay v at) → TightAt only (here from) (trimmed v)
    reads nil from at h lt e has = names-null all from e
    reads (node ws ss) from at h lt e has =
        let a = kept_words ws in
        let b = kept_slots ss in
        let pts = take b (points ss (at + a) (at + own (node ws ss))) in
        let kids = lays ss (at + own (node ws ss)) in
        let lx = length-take-le a ws (kept_words-le ws) in
        let lp = length-cut b ss (at + a) (at + own (node ws ss)) (kept_slots-le ss) in
        let lc = count-front b (trimmed_each ss) (let x = count-trimmed_each ss in let y = kept_slots-le ss in
        omega arith) in
        let h1 = has-front all at (take a ws) (pts ++ kids) has in
        let h2 = shifted _ (at + a) (pts ++ kids) (ap (λ (n : ℕ). at + n) lx)
        (has-back all at (take a ws) (pts ++ kids) has) in
        let h3 = has-front all (at + a) pts kids h2 in
        let h4 = shifted (at + a + length pts) (at + own (node ws ss)) kids (omega arith)
        (has-back all (at + a) pts kids h2) in
        let room = has-room all (at + a) pts h3 in
        let below = reads-slots ss b (at + a) (at + own (node ws ss)) h.2 (omega arith) h3 h4 in
        let x = kept_words-le ws in
        let y = kept_slots-le ss in
        struct-at all small from at a b (take a ws) (front b (trimmed_each ss)) lx lc lt (omega arith) (omega arith)
        (omega arith) e (has-words all at (take a ws) h1) below
    reads (voids n) from at h lt e has = record {
      segment = 0;
      start = at;
      is = list-names all small from at n W0 tt lt (has-room all at [] has) h e;
      inside = tt;
    }
    reads (numbers oct xs) from at h lt e has = record {
      segment = 0;
      start = at;
      is = list-names all small from at (length xs) W64 tt lt (has-room all at xs has) h.0 e;
      inside = has-words all at xs has;
    }
    reads (links ts) from at h lt e has =
        let pts = points ts at (at + count ts) in
        let kids = lays ts (at + count ts) in
        let lp = length-points ts at (at + count ts) in
        let lc = count-trimmed_each ts in
        let h1 = has-front all at pts kids has in
        let h2 = shifted (at + length pts) (at + count ts) kids (omega arith) (has-back all at pts kids has) in
        let room = has-room all at pts h1 in
        let whole : take (count ts) pts ≡ pts = ap (λ (n : ℕ). take n pts) (sym lp) ∙ take-length pts in
        let h3 = subst (λ (r : List ℕ). Has all at r) (sym whole) h1 in
        let below = reads-slots ts (count ts) at (at + count ts) h.1 (omega arith) h3 h2 in
        record {
          segment = 0;
          start = at;
          is = list-names all small from at (count ts) Link tt lt (omega arith) h.0 e
              ∙ ap (λ (n : ℕ). Ok (targets.Content 0 at (shapes.Many Link n) 0)) (sym lc);
          inside = subst (λ (r : Trees). AreTight only 0 at r) (ap (λ (n : ℕ). front n (trimmed_each ts)) (sym lc)
              ∙ front-all (trimmed_each ts)) below;
        }
    reads (rows bs) from at h lt e has =
        let a = kept_words_of_rows bs in
        let b = kept_slots_of_rows bs in
        let own_words = row_contents a b bs (suc at) (at + own (rows bs)) in
        let kids = lays_in_rows bs (at + own (rows bs)) in
        let tag = word_of (Node (pos (count_rows bs)) a b) in
        let lr = length-row_contents a b bs (suc at) (at + own (rows bs)) h.4 in
        let t = has-word all at tag (own_words ++ kids) has in
        let h1 = shifted (at + 1) (suc at) (own_words ++ kids) (omega arith)
        (has-back all at (tag ∷ []) (own_words ++ kids) has) in
        let h2 = has-front all (suc at) own_words kids h1 in
        let h3 = shifted (suc at + length own_words) (at + own (rows bs)) kids (omega arith)
        (has-back all (suc at) own_words kids h1) in
        let room = has-room all (suc at) own_words h2 in
        let below = reads-rows bs a b (suc at) (at + own (rows bs)) h.5 h.4 (omega arith) h2 h3 in
        let lc = count-trimmed_rows a b bs in (
          a,
          b,
          record {
            segment = 0;
            start = at;
            is = rows-names all small from at (count_rows bs) a b lt (omega arith) h.0 h.1 h.2 h.3 e t
                ∙ ap (λ (n : ℕ). Ok (targets.Content 0 at (shapes.Rows n a b (n * (a + b))) 0)) (sym lc);
            inside = below;
          },
        )
    reads (numbers a xs) from at h lt e has =
        elements-at all small from at (list_width a) (per_word a) (bits_in a) (length xs) (own (numbers a xs)) xs
        tt refl (omega arith) (omega arith) h.1 (λ i b. omega arith) lt h.0 e has
    reads (cap k) from at h lt e has = names-cap all from k e h

    reads-slots : (ts : Trees) (n from to : ℕ) → Sounds ts → from + n ≤ to → Has all from (take n (points ts from to))
        → Has all to (lays ts to) →
        AreTight only 0 from (front n (trimmed_each ts))
    reads-slots ts zero from to h room has kids = tt
    reads-slots no_trees (suc n) from to h room has kids = tt
    reads-slots (tree t ts) (suc n) from to h room has kids =
        let rest = take n (points ts (suc from) (to + size t)) in
        let ll = length-lay t to h.0 in
        let h1 = has-front all to (lay t to) (lays ts (to + size t)) kids in
        let h2 = shifted (to + length (lay t to)) (to + size t) (lays ts (to + size t)) (omega arith)
        (has-back all to (lay t to) (lays ts (to + size t)) kids) in
        let behind = has-back all from (point t from to ∷ []) rest has in
        let h3 = shifted (from + 1) (suc from) rest (omega arith) behind in (
          reads t from to h.0 (omega arith) (has-word all from (point t from to) rest has) h1,
          reads-slots ts n (suc from) (to + size t) h.1 (omega arith) h3 h2,
        )

    reads-rows : (bs : Bodies) (a b from to : ℕ) → SoundRows bs → AreWide a b bs → from + count_rows bs * (a + b) ≤ to →
        Has all from (row_contents a b bs from to) → Has all to (lays_in_rows bs to)
        → TightRows only a b 0 from (trimmed_rows a b bs)
    reads-rows no_bodies a b from to h wide room has kids = tt
    reads-rows (body ws ss bs) a b from to h wide room has kids =
        let pts = take b (points ss (from + a) to) in
        let rest = row_contents a b bs (from + a + b) (to + sizes ss) in
        let lx = length-take-le a ws wide.0 in
        let lp = length-cut b ss (from + a) to wide.1 in
        let lc = count-front b (trimmed_each ss) (let x = count-trimmed_each ss in let y = wide.1 in omega arith) in
        let ll = length-lays ss to h.0 in
        let m : suc (count_rows bs) * (a + b) ≡ a + b + count_rows bs * (a + b) = omega arith in
        let h1 = has-front all from (take a ws) (pts ++ rest) has in
        let h2 = shifted _ (from + a) (pts ++ rest) (ap (λ (n : ℕ). from + n) lx)
        (has-back all from (take a ws) (pts ++ rest) has) in
        let h3 = has-front all (from + a) pts rest h2 in
        let h4 = shifted (from + a + length pts) (from + a + b) rest (omega arith)
        (has-back all (from + a) pts rest h2) in
        let k1 = has-front all to (lays ss to) (lays_in_rows bs (to + sizes ss)) kids in
        let k2 = shifted (to + length (lays ss to)) (to + sizes ss) (lays_in_rows bs (to + sizes ss)) (omega arith)
        (has-back all to (lays ss to) (lays_in_rows bs (to + sizes ss)) kids) in
        row-at a b from (take a ws) (front b (trimmed_each ss)) (trimmed_rows a b bs) lx lc
        (has-words all from (take a ws) h1) (reads-slots ss b (from + a) to h.0 (omega arith) h3 k1)
        (reads-rows bs a b (from + a + b) (to + sizes ss) h.1 wide.2 (omega arith) h4 k2)

-- The canonical words of `v`, read as a message of one segment, have the trimmed value at the root. There are no
-- landing pads and no unused words in lists (`TightAt`).
pub reads_tight : (v : Tree) → Sound v → length (words v) ≤ 2 ^ 29 → TightAt (words v ∷ []) (here 0) (trimmed v)
unfolding words
reads_tight v h small =
    reads (words v) small v 0 1 h (omega arith) refl
    (record {
      before = point v 0 1 ∷ [];
      behind = [];
      is =
          ap (λ (r : List ℕ). point v 0 1 ∷ r) (sym (append-nil (lay v 1)));
      where_at = refl;
    })

-- The canonical words of `v`, read as a message of one segment, have the trimmed value at the root.
pub read_back : (v : Tree) → Sound v → length (words v) ≤ 2 ^ 29 → IsAt (words v ∷ []) (here 0) (trimmed v)
read_back v h small = loosen (words v ∷ []) (trimmed v) (here 0) (reads_tight v h small)

-- If `d` allows the height of the trimmed value, the visits of the canonical words have no fault. They pay exactly the
-- cost of the trimmed value.
pub pays_cost : (v : Tree) (base d : ℕ) → Sound v → length (words v) ≤ 2 ^ 29 → height (trimmed v) ≤ d →
    Pays (words v ∷ []) base (visits (words v ∷ []) base d (here 0)) (cost base (trimmed v))
pays_cost v base d h small tall = exact (words v ∷ []) base (trimmed v) (here 0) d tall (reads_tight v h small)
