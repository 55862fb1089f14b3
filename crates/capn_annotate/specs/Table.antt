-- The line of a segment table. (Page: serialization over a stream; the line is our own.)
use Rattle.std.specs.Prelude.{◌≡◌, ℕ, ◌+◌, ◌*◌, ◌-◌, ◌^◌, ◌==◌, Bool, true, false, not, ◌||◌, List, [], ◌∷◌, ◌++◌}
use Rattle.std.specs.Prelude.{length, take, drop, codes, refl, if◌then◌else◌}
use Rattle.std.specs.Fmt.{decimal}
use Rattle.capn_words.specs.Message.{segment_at}
use Rattle.capn_diagnostics.specs.MessageTexts.{segments_of, segments_text}
use Rattle.capn_annotate.specs.Columns.{bytes_column}
use Rattle.capn_annotate.specs.declared.table_line.TableLine.{TableLine}

-- A bit of the bytes is 1.
abbrev pub has_bits : List ℕ → Bool
has_bits [] = false
has_bits (b ∷ bs) = not (b == 0) || has_bits bs

-- A bit of the padding is 1 of the table with which `frame` begins. The table has `table` words. Its number of segments
-- and their sizes have 4 bytes each, and padding is behind them.
abbrev pub has_padding_bits : (frame : List ℕ) → (segments table : ℕ) → Bool
has_padding_bits frame segments table = has_bits (drop (4 + 4 * segments) (take (8 * table) frame))

-- The first word of a message's table: the number of segments less 1, and the words of the first segment.
abbrev pub first_word : List (List ℕ) → ℕ
first_word message = length message - 1 + 2 ^ 32 * length (segment_at message 0)

-- The end of the line of a table, which tells whether a bit of its padding is 1.
abbrev pub padding_note : Bool → List ℕ
padding_note not_zero = if not_zero then codes ", padding not zero\n" else codes "\n"

-- The line of a table, with its newline. Its place and its way have no text.
abbrev pub table_line : TableLine → List ℕ
table_line line =
    decimal line.offset ++ (codes "\t-\t" ++ (bytes_column line.word line.table ++ (codes "\t1\ttable\t\t"
    ++ (segments_text line.segments ++ padding_note line.not_zero))))

-- The line of the table of `message`, whose frame is `frame` and begins at the byte `offset` of the stream. The table
-- has `table` words.
abbrev pub table_text : (message : List (List ℕ)) → (frame : List ℕ) → (offset table : ℕ) → List ℕ
table_text message frame offset table = table_line (record {
  offset = offset;
  word = first_word message;
  table = table;
  segments = segments_of message;
  not_zero = has_padding_bits frame (length message) table;
})

-- The padding of a table of two segments is the last 4 of its 16 bytes.
padded : has_padding_bits
    (1 ∷ 0 ∷ 0 ∷ 0 ∷ 1 ∷ 0 ∷ 0 ∷ 0 ∷ 0 ∷ 0 ∷ 0 ∷ 0 ∷ 0 ∷ 0 ∷ 0 ∷ 9 ∷ 7 ∷ []) 2 2 ≡ true
padded = refl
