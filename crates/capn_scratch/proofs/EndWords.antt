-- Lemmas on the ends of segments, as words of 8 bytes. (For `ends.rt`, `framed.rt` and `scratch_segments.rt`.)
use Rattle.std.proofs.Common.{◌≡◌, ℕ, ◌+◌, ◌^◌, ◌<◌, ◌≤◌, List}
use Rattle.std.proofs.Common.{[], ◌∷◌, ◌++◌, length, take, drop, set, slice_index}
use Rattle.std.proofs.Common.{slice_index_or, slice_range, ap, ◌∙◌, arith, w64}
use Rattle.std.specs.Int.{from_le_bytes, to_le_bytes}
use Rattle.std.proofs.lemmas.List.{get_or-map, length-map, map-append, take_more_set, take_rest}
use Rattle.std.proofs.lemmas.Nat.{from_le_bytes-to_le_bytes_8}
use Rattle.capn_stream.specs.Cuts.{AreEnds, cut, ends_from}
use Rattle.capn_stream.specs.FrameRefusal.{entries, entry_number}
use Rattle.capn_stream.proofs.shared.Cutting.{rising, seen_count, seen_inside}
use Rattle.capn_scratch.specs.inner.Ends.{announced_ends, numbers}

-- Setting word `i` to the 8 bytes of `next` appends `next` to the numbers of the first `i` words.
pub numbers_more : (before : List (List ℕ)) (i : ℕ) (word : List ℕ) (next : ℕ) → i < length before
    → word ≡ to_le_bytes w64 next → next < 2 ^ 64
    → numbers (take (i + 1) (set before i word)) ≡ numbers (take i before) ++ next ∷ []
numbers_more before i word next inside is small =
    ap numbers (take_more_set before i word inside)
    ∙ map-append (λ (w : List ℕ). from_le_bytes w64 w) (take i before) (word ∷ [])
    ∙ ap (λ (n : ℕ). numbers (take i before) ++ n ∷ [])
    (ap (λ (w : List ℕ). from_le_bytes w64 w) is ∙ from_le_bytes-to_le_bytes_8 next small)

-- Number `i` of `numbers words` is the number that word `i` encodes.
pub number_in : (words : List (List ℕ)) (i : ℕ) → i < length words
    → slice_index (numbers words) i ≡ from_le_bytes w64 (slice_index_or words i [])
number_in words i inside = get_or-map (λ (w : List ℕ). from_le_bytes w64 w) words i [] 0 inside

pub numbers_count : (words : List (List ℕ)) → length (numbers words) ≡ length words
numbers_count words = length-map words (λ (w : List ℕ). from_le_bytes w64 w)

pub sizes_are : (bs : List ℕ) (count : ℕ) → entries count (slice_range bs 4 (length bs)) ≡ entries count (drop 4 bs)
sizes_are bs count = ap (λ (xs : List ℕ). entries count xs) (take_rest bs 4)

pub ends_are : (bs : List ℕ) (count : ℕ) (written : List ℕ) → count ≡ entry_number bs
    → written ≡ ends_from 0 (entries count (slice_range bs 4 (length bs))) → written ≡ announced_ends bs
ends_are bs count written is h =
    h ∙ ap (λ (ns : List ℕ). ends_from 0 ns) (sizes_are bs count ∙ ap (λ (n : ℕ). entries n (drop 4 bs)) is)

-- ---- the segments of a message that is cut at ends

module _ (ends : List (List ℕ)) (ws : List ℕ) (message : List (List ℕ)) (seen : cut 0 (numbers ends) ws ≡ message)
    (is : AreEnds (numbers ends) ws) (s : ℕ) where
  -- A message that is cut at `ends` has one segment more than `ends` has words.
  pub cut_count : length message ≡ length ends + 1
  cut_count = omega (arith, seen_count (numbers ends) ws message seen is, numbers_count ends)

  pub start_small : s < length message → slice_index (0 ∷ numbers ends) s < 2 ^ 32
  start_small h = omega (arith, seen_inside (numbers ends) ws message seen is s h, is.room)

  pub end_small : s ≤ length ends → slice_index (numbers ends ++ length ws ∷ []) s < 2 ^ 32
  end_small h =
      let r = rising 0 (numbers ends) (length ws) s (omega (arith, h, numbers_count ends)) is.rising in
      omega (arith, r.1, is.room)
