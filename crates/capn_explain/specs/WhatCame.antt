-- The figures of a message whose frame or packing is refused, from the bytes that were read of the message. (Our own.)
use Rattle.std.specs.Prelude.{◌≡◌, ℕ, ◌+◌, ◌-◌, ◌*◌, ◌^◌, ◌<◌, ◌≤◌, nat_lt, min, List, [], ◌∷◌, ◌++◌, length}
use Rattle.std.specs.Prelude.{drop, replicate, slice_index, Option, Some, None, if◌then◌else◌, refl}
use Rattle.capn_words.specs.Message.{most_segments}
use Rattle.capn_pack.specs.Packed.{Group, IsGroup, group_text}
use Rattle.capn_pack.specs.UnpackRefusal.{len_at}
use Rattle.capn_stream.specs.FrameRefusal.{announced_segments, announced_words, entries, entry_number, frame_length}
use Rattle.capn_stream.specs.FrameRefusal.{head_length}
use Rattle.capn_diagnostics.specs.declared.frame_text.FrameKey.{FrameKey}
use Rattle.capn_diagnostics.specs.declared.frame_text.FrameKey.TheVariants as keys
use Rattle.capn_diagnostics.specs.declared.segments_text.SegmentsText.{SegmentsText}

-- `rest`, followed by zeros. The number of zeros is the length in bytes of the segment table that `rest` announces. If
-- `rest` has fewer than four bytes, the missing bytes of the count are taken as zeros.
abbrev pub with_zeros : List ℕ → List ℕ
with_zeros rest = rest ++ replicate (head_length (announced_segments (rest ++ replicate 4 0))) 0

-- The number of bytes of a frame that begins with `rest`, if the missing bytes of its table are zeros. The number is at
-- most 2^64 - 1.
abbrev pub least_length : List ℕ → ℕ
least_length rest = min (frame_length (with_zeros rest)) (2 ^ 64 - 1)

-- Every frame that begins with `rest` has at least `least` bytes.
abbrev pub IsLeastOfFrame : List ℕ → ℕ → Type 0
IsLeastOfFrame rest least = (more : List ℕ) → least ≤ frame_length (rest ++ more)

-- If `came` is not empty, every group whose text begins with `came` has at least `least` bytes.
abbrev pub IsLeastOfGroup : List ℕ → ℕ → Type 0
IsLeastOfGroup came least = 0 < length came → (group : Group) (more : List ℕ) → IsGroup group
    → group_text group ≡ came ++ more → least ≤ length (group_text group)

-- The figures of a frame that is cut off after `rest`: the length of `rest`, and the least length that the frame can
-- have.
abbrev pub there : List ℕ → FrameKey
there rest = keys.AtLeast (length rest) (least_length rest)

-- The segments that the table in `rest` announces: their number, the number of their words, and the sizes of the first
-- eight. If there are fewer than eight segments, the other numbers of `first` mean nothing.
abbrev pub announced : List ℕ → SegmentsText
announced rest = record {
  count = announced_segments rest;
  words = announced_words rest;
  first = entries 8 (drop 4 rest);
}

-- `announced rest`, if the table has at most `most_segments` segments, and `rest` has the sizes of all these segments.
-- Otherwise `None`.
abbrev pub segments : List ℕ → Option SegmentsText
segments rest =
    if nat_lt most_segments (announced_segments rest) then None
    else if nat_lt (length rest) (4 + 4 * announced_segments rest) then None
    else Some (announced rest)

-- The figures of a group that is cut off after `came`: its offset `at`, its tag, the least length that it can have, and
-- the length of `came`.
abbrev pub group : ℕ → List ℕ → FrameKey
group at came = keys.Group at (slice_index came 0) (len_at came) (length came)

-- Examples of figures and segments, for frames and groups that are cut off.

-- Example: two segments, one of 3 words, and one of at least 4 words, whose size is cut off.
cut_in_a_size : there (1 ∷ 0 ∷ 0 ∷ 0 ∷ 3 ∷ 0 ∷ 0 ∷ 0 ∷ 4 ∷ []) ≡ keys.AtLeast 9 72
unfolding entry_number
cut_in_a_size = refl

-- Example: a table of at least 256 segments, whose number is cut off.
cut_in_the_count : there (255 ∷ []) ≡ keys.AtLeast 1 1032
unfolding entry_number
cut_in_the_count = refl

cut_in_a_size_untold : segments (1 ∷ 0 ∷ 0 ∷ 0 ∷ 3 ∷ 0 ∷ 0 ∷ 0 ∷ 4 ∷ []) ≡ None
unfolding entry_number
cut_in_a_size_untold = refl

one_byte_of_two : group 4 (16 ∷ []) ≡ keys.Group 4 16 2 1
unfolding lib.Count.ones
one_byte_of_two = refl

raw_words : group 0 (255 ∷ 1 ∷ 2 ∷ 3 ∷ 4 ∷ 5 ∷ 6 ∷ 7 ∷ 8 ∷ 3 ∷ []) ≡ keys.Group 0 255 34 10
raw_words = refl
