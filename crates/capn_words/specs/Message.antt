-- Words, bytes and messages: a message is a list of segments, and a segment is a list of words. (Page: messages.)
use Rattle.std.specs.Prelude.{ℕ, ◌+◌, ◌^◌, ◌≡◌, ◌≢◌, zero, suc, ◌*◌, ◌%◌, ◌<◌, ◌≤◌, List, [], ◌∷◌, length, drop}
use Rattle.std.specs.Prelude.{slice_index, Result, Ok, Err, slice_index_or, take, Option, Some, None, nat_lt}
use Rattle.std.specs.Prelude.{if◌then◌else◌}
use Rattle.std.specs.List.{flat_map, sum_by}
use Rattle.byteorder.specs.Endian.{little_bytes, little_number}
use Rattle.capn_words.specs.declared.bare.BareFault.{BareFault}
use Rattle.capn_words.specs.declared.bare.BareFault.TheVariants.{NotWhole, TooLong}
use Rattle.capn_words.specs.declared.space.Place.{Place}

-- the 8 bytes of the word `w`, the least significant first
unfoldable pub word_bytes : ℕ → List ℕ
word_bytes w = little_bytes 8 w

-- the bytes of the words `ws`, joined in order
abbrev pub bytes : List ℕ → List ℕ
bytes ws = flat_map word_bytes ws

-- the words of segment `s`, or no words if there is no such segment
abbrev pub segment_at : List (List ℕ) → ℕ → List ℕ
segment_at message s = slice_index_or message s []

-- ---- read to here for the theorem

-- ---- the limits on the size of a message. (Our own.)

-- the greatest number of segments of a message
abbrev pub most_segments : ℕ
most_segments = 4096

-- the greatest number of words that a caller may allow for a framed message
abbrev pub most_message_words : ℕ
most_message_words = 2 ^ 28

-- The greatest number of words of any message, in all its segments together: the root pointer, and as many words as a
-- caller may allow.
abbrev pub most_words : ℕ
most_words = most_message_words + 1

-- ---- words and their bytes: a word is 8 bytes, the least significant first. (Page: messages.)

-- `bs` are bytes: each number is below 256
abbrev pub AreBytes : List ℕ → Type 0
AreBytes bs = (i : ℕ) → slice_index bs i < 256

-- `ws` are words: each number is below 2^64
abbrev pub AreWords : List ℕ → Type 0
AreWords ws = (k : ℕ) → slice_index ws k < 2 ^ 64

-- the word whose bytes are the first 8 of `bs`
unfoldable pub word_number : List ℕ → ℕ
word_number bs = little_number 8 bs

-- the first `n` words in the bytes `bs`
unfoldable pub words_in : ℕ → List ℕ → List ℕ
words_in zero bs = []
words_in (suc n) bs = word_number bs ∷ words_in n (drop 8 bs)

-- `bs` are the bytes of the words `ws`, and `ws` are not more words than a message may have. (Our own.)
pub record IsBare (bs ws : List ℕ) : Type 0 where
  pub same : bs ≡ bytes ws
  pub each : AreWords ws
  pub room : length ws ≤ most_words

-- `bs`, read as one segment, are the given words, or are refused for the given reason. (Our own.)
abbrev pub ReadsBare : List ℕ → Result (List ℕ) BareFault → Type 0
ReadsBare bs (Ok ws) = IsBare bs ws
ReadsBare bs (Err (NotWhole n)) = (n ≡ length bs) × (length bs % 8 ≢ 0)
ReadsBare bs (Err (TooLong n)) = (8 * n ≡ length bs) × (most_words < n)

-- ---- a message is a list of segments, and a segment is a list of words. (Page: messages.)

-- the number of words in all segments of `message`
abbrev pub total : List (List ℕ) → ℕ
total message = sum_by length message

-- `message` has 1 to `most_segments` segments and at most `most_words` words, each below 2^64. (Our own: the limits.)
pub record IsMessage (message : List (List ℕ)) : Type 0 where
  pub some : 0 < length message
  pub few : length message ≤ most_segments
  pub room : total message ≤ most_words
  pub each : (s k : ℕ) → slice_index (segment_at message s) k < 2 ^ 64

-- the number of words of segment `s`, if there is such a segment
abbrev pub words_of : List (List ℕ) → ℕ → Option ℕ
words_of message s = if nat_lt s (length message) then Some (length (segment_at message s)) else None

-- `at` is in range: segment `at.segment` exists, and `at.word` is below the segment's length
abbrev pub IsPlace : List (List ℕ) → Place → Type 0
IsPlace message at = at.word < length (segment_at message at.segment)

-- the word at the place `at`
abbrev pub word_at : List (List ℕ) → Place → ℕ
word_at message at = slice_index (segment_at message at.segment) at.word

-- segment `at.segment` exists, and `len` bytes from the start of the word `at.word` on stay within the segment
abbrev pub IsRange : List (List ℕ) → Place → ℕ → Type 0
IsRange message at len = (at.segment < length message)
    × (8 * at.word + len ≤ 8 * length (segment_at message at.segment))

-- the `len` bytes from the start of the word at `at` on
abbrev pub bytes_at : List (List ℕ) → Place → ℕ → List ℕ
bytes_at message at len = take len (drop (8 * at.word) (bytes (segment_at message at.segment)))
