-- The texts of the findings about a slot, and their lines.
use Rattle.std.specs.Prelude.{◌≡◌, ℕ, pos, negsuc, List, [], ◌++◌, Option, Some, None, codes, refl}
use Rattle.std.specs.Fmt.{decimal, signed_decimal, digits}
use Rattle.capn_diagnostics.specs.Texts.{slot_text, tag_text, path_text, word_at_text}
use Rattle.capn_diagnostics.specs.declared.slot_text.SlotText.{SlotText}
use Rattle.capn_diagnostics.specs.declared.examined.Pad.{Pad}
use Rattle.capn_diagnostics.specs.declared.examined.Pad.TheVariants as pads
use Rattle.capn_diagnostics.specs.declared.examined.Stretch.{Stretch}
use Rattle.capn_diagnostics.specs.declared.examined.RowWords.{RowWords}
use Rattle.capn_diagnostics.specs.declared.examined.Limit.{Limit}
use Rattle.capn_diagnostics.specs.declared.examined.Limit.TheVariants as bounds
use Rattle.capn_diagnostics.specs.declared.examined.Examined.{Examined}
use Rattle.capn_diagnostics.specs.declared.holder_text.HolderText.{HolderText}
use Rattle.capn_diagnostics.specs.declared.holder_text.HolderText.TheVariants as holders

-- ---- texts

-- The text of the words `s` of a segment, with the length of the segment.
abbrev pub stretch_text : Stretch → List ℕ
stretch_text s =
    codes "words " ++ (signed_decimal s.start ++ (codes " to " ++ (signed_decimal s.end ++ (codes " of segment "
    ++ (decimal s.segment ++ (codes ", which has " ++ decimal s.length))))))

-- The text of the rows `r`: their number, the words of one row and of all rows, and the words of their list.
abbrev pub rows_text : RowWords → List ℕ
rows_text r =
    decimal r.count ++ (codes " of " ++ (decimal r.each ++ (codes " words each: " ++ (decimal r.words
    ++ (codes " of the list's " ++ decimal r.span)))))

-- The text of a limit, with the numbers to compare.
abbrev pub limit_text : Limit → List ℕ
limit_text (bounds.Depth depth) = codes "--depth " ++ decimal depth
limit_text (bounds.Budget asks left budget) =
    codes "asks for " ++ (decimal asks ++ (codes " of " ++ (decimal left ++ (codes " left, --budget "
    ++ decimal budget))))
limit_text (bounds.Segments count) = decimal count ++ codes " segments"

-- The text of the object that holds a slot.
abbrev pub holder_text : HolderText → List ℕ
holder_text (holders.Struct words slots byte) =
    codes "struct of " ++ (decimal words ++ (codes " words and " ++ (decimal slots ++ (codes " slots at byte "
    ++ decimal byte))))
holder_text (holders.Pointers count byte) =
    codes "list of " ++ (decimal count ++ (codes " pointers at byte " ++ decimal byte))
holder_text (holders.Row row count byte) =
    codes "row " ++ (decimal row ++ (codes " of " ++ (decimal count ++ (codes " at byte " ++ decimal byte))))

-- The text of the word of `s`, read as a pointer.
abbrev pub word_as_pointer : SlotText → List ℕ
word_as_pointer s = slot_text s.byte s.place s.word

-- The text of the word of `s`, read as a tag.
abbrev pub word_as_tag : SlotText → List ℕ
word_as_tag s = word_at_text s.byte s.place s.word (tag_text s.word)

-- ---- lines, each empty if there is nothing to show

-- The line of `key`, `text` and a newline.
abbrev pub line : List ℕ → List ℕ → List ℕ
line key text = key ++ (text ++ codes "\n")

-- The line `in:`, with the object that holds the slot. The line is empty for the slot of the root.
abbrev pub holder_line : Option HolderText → List ℕ
holder_line (Some holder) = line (codes "in: ") (holder_text holder)
holder_line None = codes ""

-- The lines `pad:`, one for each word of the landing pad. There are no lines for `Absent`.
abbrev pub pad_lines : Pad → List ℕ
pad_lines pads.Absent = codes ""
pad_lines (pads.One word) = line (codes "pad: ") (word_as_pointer word)
pad_lines (pads.Two first second) =
    line (codes "pad: ") (word_as_pointer first) ++ line (codes "pad: ") (word_as_pointer second)

-- The line `tag:`, with the tag of the list of structs. The line is empty if there is no tag.
abbrev pub tag_line : Option SlotText → List ℕ
tag_line (Some word) = line (codes "tag: ") (word_as_tag word)
tag_line None = codes ""

-- The line `content:`, with the words of content or of a landing pad. The line is empty if there are no such words.
abbrev pub content_line : Option Stretch → List ℕ
content_line (Some s) = line (codes "content: ") (stretch_text s)
content_line None = codes ""

-- The line `rows:`, with the rows `r` of a list of structs. The line is empty for `None`.
abbrev pub rows_line : Option RowWords → List ℕ
rows_line (Some r) = line (codes "rows: ") (rows_text r)
rows_line None = codes ""

-- The line `limit:`, with the text of `limit`. The line is empty for `None`.
abbrev pub limit_line : Option Limit → List ℕ
limit_line (Some limit) = line (codes "limit: ") (limit_text limit)
limit_line None = codes ""

-- The line of the `path` to a slot, the line of its `holder`, and the lines of the findings `e` about this slot.
abbrev pub slot_lines : List ℕ → Option HolderText → Examined → List ℕ
slot_lines path holder e =
    line (codes "way: ") (path_text path) ++ (line (codes "slot: ") (word_as_pointer e.slot) ++ (holder_line holder
    ++ (pad_lines e.pad ++ (tag_line e.tag ++ (content_line e.content ++ (rows_line e.rows ++ limit_line e.limit))))))

-- ---- one text of each kind

content_before_a_segment :
    stretch_text (record { segment = 0; start = negsuc 1; end = pos 1; length = 4 })
    ≡ codes "words -2 to 1 of segment 0, which has 4"
unfolding digits
content_before_a_segment = refl

rows_without_room :
    rows_text (record { count = 3; each = 2; words = 6; span = 4 }) ≡ codes "3 of 2 words each: 6 of the list's 4"
unfolding digits
rows_without_room = refl

a_budget : limit_text (bounds.Budget 12 4 10) ≡ codes "asks for 12 of 4 left, --budget 10"
unfolding digits
a_budget = refl

a_depth : limit_text (bounds.Depth 64) ≡ codes "--depth 64"
unfolding digits
a_depth = refl

a_row : holder_text (holders.Row 2 5 40) ≡ codes "row 2 of 5 at byte 40"
unfolding digits
a_row = refl
