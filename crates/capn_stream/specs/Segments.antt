-- A message in segments that lie apart in memory, each a list of words of 8 bytes. (Our own.)
use Rattle.std.specs.Prelude.{◌≡◌, ℕ, ◌-◌, ◌^◌, ◌<◌, ◌≤◌, List, length, map, min, Result, Ok, Err}
use Rattle.std.specs.Borrow.{Bor}
use Rattle.std.specs.List.{flat_map}
use Rattle.capn_words.specs.Message.{most_segments, total, word_number, AreBytes}
use Rattle.capn_stream.specs.declared.segments_fault.SegmentsFault.{SegmentsFault}
use Rattle.capn_stream.specs.declared.segments_fault.SegmentsFault.TheVariants.{Empty, TooManySegments, TooManyWords}

-- the message of `segments`: a word is the number of its 8 bytes, the least significant first
abbrev pub message_of : List (Bor (List (List ℕ))) → List (List ℕ)
message_of segments = map (λ segment. map word_number segment.now) segments

-- the bytes of `words`, one word after another
abbrev pub joined : List (List ℕ) → List ℕ
joined words = flat_map (λ word. word) words

-- `word` is 8 bytes
abbrev pub IsWord : List ℕ → Type 0
IsWord word = (length word ≡ 8) × AreBytes word

-- `message` has 1 to 4,096 segments and at most `most` words
pub record IsHeld (message : List (List ℕ)) (most : ℕ) : Type 0 where
  pub some : 0 < length message
  pub few : length message ≤ most_segments
  pub room : total message ≤ most

-- the number of words of `message`, but at most 2^64 - 1. Segments that share memory can have more words in all.
abbrev pub counted_words : List (List ℕ) → ℕ
counted_words message = min (total message) (2 ^ 64 - 1)

-- The segments are refused with the given fault if at most `most` words are allowed. Each test requires that the
-- earlier tests passed.
abbrev pub IsUnheld : List (List ℕ) → ℕ → SegmentsFault → Type 0
IsUnheld message most Empty = length message ≡ 0
IsUnheld message most (TooManySegments n) = (n ≡ length message) × (most_segments < n)
IsUnheld message most (TooManyWords n) = (0 < length message) × (length message ≤ most_segments)
    × (most < total message) × (n ≡ counted_words message)

-- the result of reading the segments of `message`: `message` if it is within the limits, otherwise the first fault
abbrev pub ReadsSegments : List (List ℕ) → ℕ → Result (List (List ℕ)) SegmentsFault → Type 0
ReadsSegments message most (Ok read) = (read ≡ message) × IsHeld message most
ReadsSegments message most (Err e) = IsUnheld message most e
