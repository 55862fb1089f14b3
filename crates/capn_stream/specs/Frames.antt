-- The frame of a message in a stream: the table of its segments, padding to a multiple of 8 bytes, and the segments.
-- (Page: serialization over a stream.)
use Rattle.std.specs.Prelude.{◌≡◌, ℕ, ◌+◌, ◌-◌, ◌/◌, ◌%◌, ◌^◌, ◌<◌, ◌≤◌, ◌==◌, if◌then◌else◌, List, ◌++◌, length, take}
use Rattle.std.specs.Prelude.{replicate, slice_index}
use Rattle.std.specs.List.{flat_map}
use Rattle.byteorder.specs.Endian.{little_bytes}
use Rattle.capn_words.specs.Message.{most_segments, bytes, segment_at, total, AreBytes}

-- the number of words of the longest table, including its padding (our own)
abbrev pub most_table_words : ℕ
most_table_words = most_segments / 2 + 1

-- the 4 bytes of a number below 2^32, the least significant first
unfoldable pub entry : ℕ → List ℕ
entry n = little_bytes 4 n

-- the table of `message`: the number of its segments less one, then the size in words of each segment
abbrev pub table : List (List ℕ) → List ℕ
table message = entry (length message - 1) ++ flat_map (λ ws. entry (length ws)) message

-- the number of bytes of padding after the table: 4 exactly if the number of segments is even
abbrev pub padding : ℕ → ℕ
padding count = if count % 2 == 0 then 4 else 0

-- the bytes of the segments of `message`, one after another
abbrev pub segment_bytes : List (List ℕ) → List ℕ
segment_bytes message = flat_map bytes message

-- An accepted table can announce `message`. The message has 1 to 4,096 segments (our own: no more). Each segment has
-- fewer than 2^32 words, and each word is below 2^64.
pub record FitsTable (message : List (List ℕ)) : Type 0 where
  pub some : 0 < length message
  pub few : length message ≤ most_segments
  pub sizes : (s : ℕ) → length (segment_at message s) < 2 ^ 32
  pub each : (s k : ℕ) → slice_index (segment_at message s) k < 2 ^ 64

-- `bs` are a frame of `message`: its table, padding of any bytes (our own: any), and its contents
pub record Frames (bs : List ℕ) (message : List (List ℕ)) : Type 0 where
  pub fits : FitsTable message
  pub gap : List ℕ
  pub gap_bytes : AreBytes gap
  pub gap_length : length gap ≡ padding (length message)
  pub text : bs ≡ table message ++ (gap ++ segment_bytes message)

-- the frame of `message` with zeros as padding (our own: the zeros)
abbrev pub frame_text : List (List ℕ) → List ℕ
frame_text message = table message ++ (replicate (padding (length message)) 0 ++ segment_bytes message)

-- the first `taken` bytes of `bs` are a frame of `message`, which has at most `most` words
pub record StandsFirst (bs : List ℕ) (most : ℕ) (message : List (List ℕ)) (taken : ℕ) : Type 0 where
  pub inside : taken ≤ length bs
  pub frame : Frames (take taken bs) message
  pub room : total message ≤ most
