-- Every number of a value at a place of a message is in range. (For `values`, `walk_counted`, capn_c, capn_canon and
-- capn_mismatch.)
use Rattle.std.proofs.Common.{ℕ, zero, suc, ◌+◌, ◌/◌, ◌%◌, ◌^◌, ◌<◌, List, [], ◌∷◌, length, drop, slice_index, sym}
use Rattle.std.proofs.Common.{subst, arith}
use Rattle.std.proofs.Math.Nat.{mod-lt}
use Rattle.capn_words.specs.Message.{segment_at}
use Rattle.capn_words.specs.declared.space.Place.{Place}
use Rattle.capn_words.specs.declared.pointer.Width.TheVariants.{W0}
use Rattle.capn_value.specs.NumberWidth.{NumberWidth, oct, bits_in, per_word}
use Rattle.capn_value.specs.Tree.{Tree, nil, node, voids, numbers, links, rows, cap, Trees}
use Rattle.capn_value.specs.Tree.{no_trees, tree, Bodies, no_bodies, body}
use Rattle.capn_value.specs.InRange.{AllBelow, InRange, EachInRange, RowsInRange}
use Rattle.capn_value.proofs.shared.Ranges.{below_from, below-take}
use Rattle.capn_target.specs.declared.target.Shape.TheVariants as shapes
use Rattle.capn_walk.specs.ValueAt.{AreElements, AreWordsAt, words_from, IsAt, AreAt, RowsAt, AreNumbers}
use Rattle.capn_target.proofs.shared.Ranges.{room-of, cap-of}

below-drop : (most n : ℕ) (xs : List ℕ) → AllBelow most xs → AllBelow most (drop n xs)
below-drop most zero xs h = h
below-drop most (suc n) [] h = tt
below-drop most (suc n) (x ∷ xs) h = below-drop most n xs h.1

below-by_index : (most : ℕ) (xs : List ℕ) → ((i : ℕ) → i < length xs → slice_index xs i < most) → AllBelow most xs
below-by_index most [] h = tt
below-by_index most (x ∷ xs) h = (h 0 (omega arith), below-by_index most xs (λ i l. h (suc i) (omega arith)))

elements-below : (each width : ℕ) (ws xs : List ℕ) → 0 < 2 ^ width → AreElements each width ws xs
    → AllBelow (2 ^ width) xs
elements-below each width ws xs p h =
    below-by_index (2 ^ width) xs
    (λ i l. subst (λ (x : ℕ). x < 2 ^ width) (sym (h i l))
    (mod-lt (slice_index ws (i / each) / (2 ^ width) ^ (i % each)) p))

module _ (m : List (List ℕ)) (each : (s k : ℕ) → slice_index (segment_at m s) k < 2 ^ 64) where
  words-below : (s w : ℕ) (ws : List ℕ) → AreWordsAt m s w ws → AllBelow (2 ^ 64) ws
  words-below s w ws h =
      subst (AllBelow (2 ^ 64)) h
      (below-take (2 ^ 64) (length ws) (drop w (segment_at m s))
      (below-drop (2 ^ 64) w (segment_at m s) (below_from (2 ^ 64) (segment_at m s) (each s))))

  numbers-below : (a : NumberWidth) (s w : ℕ) (xs : List ℕ) → AreNumbers a (words_from m s w) xs
      → AllBelow (2 ^ bits_in a) xs
  numbers-below oct s w xs h = words-below s w xs h
  numbers-below a s w xs h = elements-below (per_word a) (bits_in a) (words_from m s w) xs (omega arith) h

  mutual
    -- if all words of the message are below 2^64, the value `v` at a place of the message is in range
    pub in_range-at : (v : Tree) (at : Place) → IsAt m at v → InRange v
    in_range-at nil at h = tt
    in_range-at (cap k) at h = cap-of m at k h
    in_range-at (node ws ss) at h =
        (words-below h.segment h.start ws h.inside.0, in_range-slots ss h.segment (h.start + length ws) h.inside.1)
    in_range-at (voids n) at h = omega (arith, room-of m at h.segment h.start h.pads (shapes.Many W0 n) h.is)
    in_range-at (numbers a xs) at h = numbers-below a h.segment h.start xs h.inside
    in_range-at (links ts) at h = in_range-slots ts h.segment h.start h.inside
    in_range-at (rows bs) at h = in_range-rows bs h.0 h.1 h.3.segment (suc h.3.start) h.3.inside

    in_range-slots : (ts : Trees) (s w : ℕ) → AreAt m s w ts → EachInRange ts
    in_range-slots no_trees s w h = tt
    in_range-slots (tree t ts) s w h =
        (in_range-at t (record { segment = s; word = w }) h.0, in_range-slots ts s (suc w) h.1)

    in_range-rows : (bs : Bodies) (a b s w : ℕ) → RowsAt m a b s w bs → RowsInRange bs
    in_range-rows no_bodies a b s w h = tt
    in_range-rows (body ws ss bs) a b s w h =
        (words-below s w ws h.2, in_range-slots ss s (w + a) h.3, in_range-rows bs a b s (w + a + b) h.4)
