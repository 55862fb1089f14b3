-- The ends of segments, as words of 8 bytes.
use Rattle.std.specs.Prelude.{ℕ, List, map, drop}
use Rattle.std.specs.Int.{w64, from_le_bytes}
use Rattle.capn_stream.specs.Cuts.{ends_from}
use Rattle.capn_stream.specs.FrameRefusal.{entries, entry_number}

-- The numbers that `words` encode. Each word has 8 bytes, the least significant first.
abbrev pub numbers : List (List ℕ) → List ℕ
numbers words = map (λ word. from_le_bytes w64 word) words

-- The ends of all segments but the last, as the segment table at the front of `bs` announces them. An end is a number
-- of words from the start of the message.
abbrev pub announced_ends : List ℕ → List ℕ
announced_ends bs = ends_from 0 (entries (entry_number bs) (drop 4 bs))
