-- Lemmas for `first` and `read_table`: bytes with a complete frame begin with a message.
use Rattle.std.proofs.Common.{◌≡◌, ℕ, ◌+◌, ◌-◌, ◌*◌, ◌^◌, ◌≤◌, List, ◌++◌, length, take, drop, sum, map, ap, sym, subst}
use Rattle.std.proofs.Common.{◌∙◌, arith, append_assoc, length-drop}
use Rattle.std.specs.List.{flat_map}
use Rattle.std.proofs.lemmas.List.{length-take-le, take_rest}
use Rattle.capn_words.specs.Message.{bytes, AreBytes, AreWords, IsBare}
use Rattle.capn_stream.specs.Cuts.{AreEnds, cut, ends_from}
use Rattle.capn_stream.specs.Frames.{StandsFirst, segment_bytes, entry, padding, table}
use Rattle.capn_stream.specs.FrameRefusal.{IsWhole, announced_segments, entries, entry_number, frame_length}
use Rattle.capn_stream.specs.FrameRefusal.{head_length}
use Rattle.capn_stream.specs.FrameRefusal.{announced_words}
use Rattle.capn_stream.proofs.shared.Cutting.{length-cut, message-cut, total-cut}
use Rattle.capn_stream.proofs.shared.Ends.{AreRising-ends_from, contents-cut, length-ends_from, lengths-cut}
use Rattle.capn_stream.proofs.shared.Entries.{entries_more, entry-entries, entry-entry_number, below-drop, below-take}
use Rattle.capn_stream.proofs.shared.Entries.{length-entries, sum-entries_more, take_then}
use Rattle.capn_words.proofs.shared.Words.{length-bytes}
use Rattle.capn_stream.proofs.shared.FrameLaws.{FitsTable-message, table_sizes}

-- the announced sizes of all segments except the last
abbrev pub sizes_before : List ℕ → List ℕ
sizes_before bs = entries (entry_number bs) (drop 4 bs)

last_size : List ℕ → ℕ
last_size bs = entry_number (drop (4 * entry_number bs) (drop 4 bs))

module _ (bs : List ℕ) (most : ℕ) (ws : List ℕ) (small : most ≤ 2 ^ 28) (below : AreBytes bs) (whole : IsWhole bs most)
    (each : AreWords ws)
    (are : take (8 * announced_words bs) (drop (head_length (announced_segments bs)) bs) ≡ bytes ws) where
  here : List (List ℕ)
  here = cut 0 (ends_from 0 (sizes_before bs)) ws

  words_are : length ws ≡ announced_words bs
  words_are =
      let room : 8 * announced_words bs ≤ length (drop (head_length (announced_segments bs)) bs) =
      omega (arith, whole.2, length-drop (head_length (announced_segments bs)) bs) in
      let size = length-take-le (8 * announced_words bs) (drop (head_length (announced_segments bs)) bs) room in
      omega (arith, ap length are, size, length-bytes ws)

  pub ends_are : AreEnds (ends_from 0 (sizes_before bs)) ws
  ends_are =
      let more = sum-entries_more (entry_number bs) (drop 4 bs) in
      record {
        few = omega (
          arith,
          length-ends_from 0 (sizes_before bs),
          length-entries (entry_number bs) (drop 4 bs),
          whole.0.0.1,
        );
        rising = AreRising-ends_from 0 (sizes_before bs) (length ws) (omega (arith, more, words_are));
        room = omega (arith, words_are, whole.1, small);
        each = each;
      }

  count_is : length here ≡ announced_segments bs
  unfolding here
  count_is = omega (
    arith,
    length-cut 0 (ends_from 0 (sizes_before bs)) ws,
    length-ends_from 0 (sizes_before bs),
    length-entries (entry_number bs) (drop 4 bs),
  )

  sizes_are : map length here ≡ entries (announced_segments bs) (drop 4 bs)
  unfolding here last_size
  sizes_are =
      let more = sum-entries_more (entry_number bs) (drop 4 bs) in
      lengths-cut 0 (sizes_before bs) (last_size bs) ws (omega (arith, more, words_are))
      ∙ sym (entries_more (entry_number bs) (drop 4 bs))

  table_is : table here ≡ take (4 + 4 * announced_segments bs) bs
  table_is =
      let size : length here - 1 ≡ entry_number bs = omega (arith, count_is) in
      let first = ap entry size ∙ entry-entry_number bs below whole.0.0.0 in
      let room : 4 * announced_segments bs ≤ length (drop 4 bs) = omega (arith, whole.0.1, length-drop 4 bs) in
      let rest = table_sizes here ∙ ap (λ (ns : List ℕ). flat_map entry ns) sizes_are
      ∙ entry-entries (announced_segments bs) (drop 4 bs) (below-drop 256 4 bs below) room in
      rw (first, rest) (take_then 4 (4 * announced_segments bs) bs)

  contents_is : segment_bytes here ≡ take (8 * announced_words bs) (drop (head_length (announced_segments bs)) bs)
  unfolding here
  contents_is = contents-cut 0 (ends_from 0 (sizes_before bs)) ws ends_are.rising ∙ sym are

  pub stands : StandsFirst bs most (cut 0 (ends_from 0 (sizes_before bs)) ws) (frame_length bs)
  unfolding here
  stands =
      let gap : List ℕ = take (padding (announced_segments bs)) (drop (4 + 4 * announced_segments bs) bs) in
      let pad : padding (length here) ≡ padding (announced_segments bs) = ap padding count_is in
      let space : padding (announced_segments bs) ≤ length (drop (4 + 4 * announced_segments bs) bs) =
      omega (arith, whole.0.1, length-drop (4 + 4 * announced_segments bs) bs) in
      let head : table here ++ gap ≡ take (head_length (announced_segments bs)) bs =
      ap (λ (xs : List ℕ). xs ++ gap) table_is
      ∙ take_then (4 + 4 * announced_segments bs) (padding (announced_segments bs)) bs in
      let all : (table here ++ gap) ++ segment_bytes here ≡ take (frame_length bs) bs =
      ap (λ (xs : List ℕ). xs ++ segment_bytes here) head
      ∙ ap (λ (xs : List ℕ). take (head_length (announced_segments bs)) bs ++ xs) contents_is
      ∙ take_then (head_length (announced_segments bs)) (8 * announced_words bs) bs in
      record {
        inside = whole.2;
        frame = record {
          fits = FitsTable-message here (message-cut (ends_from 0 (sizes_before bs)) ws ends_are);
          gap = gap;
          gap_bytes = below-take 256 (padding (announced_segments bs)) (drop (4 + 4 * announced_segments bs) bs)
              (omega arith) (below-drop 256 (4 + 4 * announced_segments bs) bs below);
          gap_length = length-take-le (padding (announced_segments bs)) (drop (4 + 4 * announced_segments bs) bs) space
              ∙ sym pad;
          text = sym all ∙ append_assoc (table here) gap (segment_bytes here);
        };
        room = omega (arith, total-cut 0 (ends_from 0 (sizes_before bs)) ws ends_are.rising, words_are, whole.1);
      }

-- the sizes that are read after the count are the announced sizes of all segments except the last
pub sizes_read : (bs : List ℕ) (segments : ℕ) → segments ≡ announced_segments bs
    → entries (segments - 1) (take (length bs - 4) (drop 4 bs)) ≡ sizes_before bs
sizes_read bs segments count =
    let less : segments - 1 ≡ entry_number bs = omega (arith, count) in
    ap (λ (n : ℕ). entries n (take (length bs - 4) (drop 4 bs))) less
    ∙ ap (λ (xs : List ℕ). entries (entry_number bs) xs) (take_rest bs 4)

pub sum-sizes_read : (bs : List ℕ) (segments : ℕ) → segments ≡ announced_segments bs
    → sum (entries (segments - 1) (take (length bs - 4) (drop 4 bs))) ≤ announced_words bs
sum-sizes_read bs segments count =
    omega (arith, ap sum (sizes_read bs segments count), sum-entries_more (entry_number bs) (drop 4 bs))

-- each lemma of this block is about the segments of a frame whose table was read
module _ (bs : List ℕ) (most segments words start : ℕ) (ends ws : List ℕ) (small : most ≤ 2 ^ 28) (below : AreBytes bs)
    (whole : IsWhole bs most) (count : segments ≡ announced_segments bs) (all : words ≡ announced_words bs)
    (begins : start ≡ head_length segments)
    (ends_is : ends ≡ ends_from 0 (entries (segments - 1) (take (length bs - 4) (drop 4 bs))))
    (bare : IsBare (take (start + 8 * words - start) (drop start bs)) ws) where
  ends_before : ends ≡ ends_from 0 (sizes_before bs)
  ends_before = ends_is ∙ ap (λ (ns : List ℕ). ends_from 0 ns) (sizes_read bs segments count)

  start_is : start ≡ head_length (announced_segments bs)
  start_is = begins ∙ ap head_length count

  text_is : take (8 * announced_words bs) (drop (head_length (announced_segments bs)) bs) ≡ bytes ws
  text_is =
      let size : 8 * announced_words bs ≡ start + 8 * words - start = omega (arith, all) in
      ap (λ (n : ℕ). take n (drop (head_length (announced_segments bs)) bs)) size
      ∙ ap (λ (n : ℕ). take (start + 8 * words - start) (drop n bs)) (sym start_is) ∙ bare.same

  pub read_ends : AreEnds ends ws
  read_ends = let P : List ℕ → Type 0 = λ xs. AreEnds xs ws in
      subst P (sym ends_before) (ends_are bs most ws small below whole bare.each text_is)

  pub read_stands : StandsFirst bs most (cut 0 ends ws) (start + 8 * words)
  read_stands =
      let size : frame_length bs ≡ start + 8 * words = omega (arith, start_is, all) in
      let P : List ℕ → Type 0 = λ xs. StandsFirst bs most (cut 0 xs ws) (start + 8 * words) in
      let Q : ℕ → Type 0 = λ n. StandsFirst bs most (cut 0 (ends_from 0 (sizes_before bs)) ws) n in
      subst P (sym ends_before) (subst Q size (stands bs most ws small below whole bare.each text_is))
