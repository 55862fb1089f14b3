-- The numbers that the table of a frame announces, and the reason why bytes are no frame. (Page: serialization over a
-- stream. The order of the tests is our own.)
use Rattle.std.specs.Prelude.{◌≡◌, ◌⊎◌, ℕ, zero, suc, ◌+◌, ◌*◌, ◌<◌, ◌≤◌, List, [], ◌∷◌, length, drop, sum, ⊤, refl}
use Rattle.byteorder.specs.Endian.{little_number}
use Rattle.capn_words.specs.Message.{most_segments}
use Rattle.capn_stream.specs.Frames.{padding}
use Rattle.capn_stream.specs.declared.fault.FrameFault.{FrameFault}
use Rattle.capn_stream.specs.declared.fault.FrameFault.TheVariants.{Memory, Empty, TooManySegments, TooManyWords, Cut}
use Rattle.capn_stream.specs.declared.fault.FrameFault.TheVariants.{Failed}

-- the number in the first 4 bytes of `bs`, the least significant byte first
unfoldable pub entry_number : List ℕ → ℕ
entry_number bs = little_number 4 bs

-- the first `n` numbers in `bs`, of 4 bytes each
abbrev pub entries : ℕ → List ℕ → List ℕ
entries zero bs = []
entries (suc n) bs = entry_number bs ∷ entries n (drop 4 bs)

-- the number of segments that the table at the front of `bs` announces
abbrev pub announced_segments : List ℕ → ℕ
announced_segments bs = entry_number bs + 1

-- the number of words that the table at the front of `bs` announces, which is the sum of the sizes after the count
abbrev pub announced_words : List ℕ → ℕ
announced_words bs = sum (entries (announced_segments bs) (drop 4 bs))

-- the length in bytes of the table of `count` segments, including its padding
abbrev pub head_length : ℕ → ℕ
head_length count = 4 + 4 * count + padding count

-- the length in bytes of the frame that the table at the front of `bs` announces
abbrev pub frame_length : List ℕ → ℕ
frame_length bs = head_length (announced_segments bs) + 8 * announced_words bs

-- `bs` have the complete count, which announces at most 4,096 segments
abbrev pub HasCount : List ℕ → Type 0
HasCount bs = (4 ≤ length bs) × (announced_segments bs ≤ most_segments)

-- `bs` have the complete table with its padding, and the count announces at most 4,096 segments
abbrev pub HasHead : List ℕ → Type 0
HasHead bs = HasCount bs × (head_length (announced_segments bs) ≤ length bs)

-- `bs` have the complete announced frame, which has at most `most` words
abbrev pub IsWhole : List ℕ → ℕ → Type 0
IsWhole bs most = HasHead bs × (announced_words bs ≤ most) × (frame_length bs ≤ length bs)

-- the greatest number of segments of a message that is read without an allocation (our own)
abbrev pub most_few : ℕ
most_few = 64

-- `bs` have the complete announced frame, with at most `most` words. The table announces more than 64 segments, so that
-- memory is needed for the ends of the segments.
abbrev pub HasTable : List ℕ → ℕ → Type 0
HasTable bs most = IsWhole bs most × (most_few < announced_segments bs)

-- the count 63 announces `most_few` segments, the most that are read without an allocation
no_more : announced_segments (63 ∷ 0 ∷ 0 ∷ 0 ∷ []) ≡ most_few
unfolding entry_number
no_more = refl

-- the count 64 announces one segment more than `most_few`
one_more : announced_segments (64 ∷ 0 ∷ 0 ∷ 0 ∷ []) ≡ most_few + 1
unfolding entry_number
one_more = refl

-- `bs` end within a frame: within the count; within the table or its padding, if the count announces at most 4,096
-- segments; or within the contents, if the table also announces at most `most` words.
abbrev pub IsCut : List ℕ → ℕ → Type 0
IsCut bs most =
    ((0 < length bs) × (length bs < 4))
    ⊎ (HasCount bs × (length bs < head_length (announced_segments bs)))
    ⊎ (HasHead bs × (announced_words bs ≤ most) × (length bs < frame_length bs))

-- `bs` do not go beyond the count; or not beyond the table and its padding, if the count announces at most 4,096
-- segments; or not beyond the contents, if the table also announces at most `most` words.
abbrev pub EndsWithin : List ℕ → ℕ → Type 0
EndsWithin bs most =
    (length bs ≤ 4)
    ⊎ (HasCount bs × (length bs ≤ head_length (announced_segments bs)))
    ⊎ (HasHead bs × (announced_words bs ≤ most) × (length bs ≤ frame_length bs))

-- `bs` may be refused with the given fault if at most `most` words are allowed. Each test requires that the earlier
-- tests passed. `Memory` is possible for all `bs`, and `Failed` for none.
abbrev pub IsFrameRefused : List ℕ → ℕ → FrameFault → Type 0
IsFrameRefused bs most Memory = ⊤
IsFrameRefused bs most Empty = length bs ≡ 0
IsFrameRefused bs most (TooManySegments n) = (4 ≤ length bs) × (n ≡ announced_segments bs) × (most_segments < n)
IsFrameRefused bs most (TooManyWords n) = HasHead bs × (n ≡ announced_words bs) × (most < n)
IsFrameRefused bs most Cut = IsCut bs most
IsFrameRefused bs most Failed = ⊥
