-- The text of a line. (Our own.)
use Rattle.std.specs.Prelude.{◌≡◌, ℕ, ◌+◌, ◌*◌, ◌/◌, ◌==◌, Bool, true, false, List, [], ◌++◌, take}
use Rattle.std.specs.Prelude.{Option, Some, None, codes, refl, if◌then◌else◌}
use Rattle.std.specs.Fmt.{decimal, digits}
use Rattle.capn_words.specs.Message.{bytes_at, word_at}
use Rattle.capn_words.specs.Pointers.{pointer_of}
use Rattle.capn_words.specs.declared.space.Place.{Place}
use Rattle.capn_words.specs.declared.pointer.Width.{Width}
use Rattle.capn_words.specs.declared.pointer.Width.TheVariants as widths
use Rattle.capn_target.specs.declared.target.Target.{Target}
use Rattle.capn_target.specs.declared.target.Target.TheVariants as targets
use Rattle.capn_target.specs.declared.target.Shape.TheVariants as shapes
use Rattle.capn_diagnostics.specs.Texts.{elements_text, pointer_text, tag_text}
use Rattle.capn_cover.specs.Numbers.{number}
use Rattle.capn_cover.specs.declared.covered.Covered.{Covered}
use Rattle.capn_lines.specs.Lists.{list_part}
use Rattle.capn_lines.specs.declared.kind.Kind.{Kind}
use Rattle.capn_lines.specs.declared.kind.Kind.TheVariants as kinds
use Rattle.capn_lines.specs.declared.line.Line.{Line}
use Rattle.capn_lines.specs.declared.list_parts.ListPart.{ListPart}
use Rattle.capn_annotate.specs.declared.columns.Columns.{Columns}
use Rattle.capn_annotate.specs.declared.saying.Saying.{Saying}
use Rattle.capn_annotate.specs.declared.saying.Saying.TheVariants as says
use Rattle.capn_annotate.specs.Columns.{place_text, columns_text, way_column}
use Rattle.capn_annotate.specs.Quotations.{quotation_of}
use Rattle.capn_annotate.specs.Leads.{content_place, has_one_pad, leads_to}
use Rattle.capn_annotate.specs.Ways.{way_of}

-- ---- the saying of a line about its words

-- The place where a content starts, if it is shown.
abbrev pub to_text : Option Place → List ℕ
to_text (Some at) = codes ", to " ++ place_text at
to_text None = codes ""

-- The text of words that nobody reads: their number, and how many of them are not zero.
abbrev pub unread_text : (words not_zero : ℕ) → List ℕ
unread_text words not_zero =
    if not_zero == 0 then decimal words ++ codes " words, zero"
    else decimal words ++ (codes " words, " ++ (decimal not_zero ++ codes " not zero"))

-- The text of a saying.
abbrev pub saying_text : Saying → List ℕ
saying_text (says.Pointer pointer to) = pointer_text pointer ++ to_text to
saying_text (says.Tag word) = tag_text word
saying_text (says.Slots n) = decimal n ++ codes " slots"
saying_text (says.Words n) = decimal n ++ codes " words"
saying_text (says.Elements width n) = decimal n ++ (codes " " ++ elements_text width)
saying_text (says.Unread words not_zero) = unread_text words not_zero

-- The width and the number of the elements of a list.
abbrev pub elements_of : Target → Saying
elements_of (targets.Content s start (shapes.Many width n) pads) = says.Elements width n
elements_of _ = says.Elements widths.W0 0

module _ (message : List (List ℕ)) where
  -- A word of a landing pad. Where the pad is one word, the place to which it leads is shown.
  abbrev pub pad_saying : (one_pad : Bool) → Place → Saying
  pad_saying true at =
      says.Pointer (pointer_of (word_at message at)) (content_place at (pointer_of (word_at message at)))
  pad_saying false at = says.Pointer (pointer_of (word_at message at)) None

  -- The saying of a line of a kind.
  abbrev pub saying_in : Kind → Line → Saying
  saying_in kinds.Pointer line = pad_saying true line.place
  saying_in kinds.Null line = says.Slots line.words
  saying_in kinds.Pad line = pad_saying (has_one_pad message line.slot) line.place
  saying_in kinds.Tag line = says.Tag (word_at message line.place)
  saying_in kinds.Data line = says.Words line.words
  saying_in kinds.List line = elements_of (leads_to message line.slot)
  saying_in kinds.Slack line = says.Unread line.words line.not_zero
  saying_in kinds.Unreached line = says.Unread line.words line.not_zero

  -- The saying of a line about its words.
  abbrev pub saying_of : Line → Saying
  saying_of line = saying_in line.kind line

-- ---- the bits behind the last element of a list

-- The number of bits behind the last element of a list of bits, or the number of bytes.
abbrev pub padding_length : Width → (bits : ℕ) → List ℕ
padding_length widths.W1 bits = decimal bits ++ codes " bits"
padding_length _ bits = decimal (bits / 8) ++ codes " bytes"

-- The padding of a list, if there is any.
abbrev pub padding_text : Width → (bits : ℕ) → (not_zero : Bool) → List ℕ
padding_text width bits not_zero =
    if bits == 0 then codes ""
    else if not_zero then codes ", padding " ++ (padding_length width bits ++ codes " not zero")
    else codes ", padding " ++ padding_length width bits

module _ (message : List (List ℕ)) where
  -- The bytes of the elements that the words of a line have of their list of bytes.
  abbrev pub line_bytes : Line → ListPart → List ℕ
  line_bytes line part = take part.count (bytes_at message line.place (8 * line.words))

  -- The quotation of a line of a list.
  abbrev pub line_quotation : Width → Line → ListPart → List ℕ
  line_quotation widths.W8 line part = quotation_of part.last (line_bytes line part)
  line_quotation _ line part = []

  -- The rest of the text of a list: a quotation, and the padding.
  abbrev pub list_text : Line → ListPart → List ℕ
  list_text line part =
      line_quotation part.width line part ++ padding_text part.width part.padding part.padding_not_zero

  -- The rest of the text of a kind. Only a list has a rest.
  abbrev pub rest_text : Kind → Line → List ℕ
  rest_text kinds.List line = list_text line (list_part message line)
  rest_text _ line = []

-- ---- the end of a line

-- The number of words that canonical bytes leave out, if there are any.
abbrev pub cut_text : ℕ → List ℕ
cut_text n = if n == 0 then codes "" else codes ", " ++ (decimal n ++ codes " cut")

-- The end of a line: the number of words that canonical bytes leave out, whether the words are an overlap, and a
-- newline.
abbrev pub tail_text : (cut : ℕ) → (overlap : Bool) → List ℕ
tail_text n overlap = if overlap then cut_text n ++ codes ", overlap\n" else cut_text n ++ codes "\n"

-- ---- a line

-- The columns, the way and the saying of a line.
abbrev pub front_text : Columns → (path : List ℕ) → Saying → List ℕ
front_text columns path saying =
    columns_text columns ++ (way_column columns.kind path ++ (codes "\t" ++ saying_text saying))

module _ (message : List (List ℕ)) where
  -- The values in the columns of a line. The message's first word lies at the byte `start` of the stream.
  abbrev pub columns_record : (start : ℕ) → Line → Columns
  columns_record start line = record {
    byte = start + 8 * number message line.place;
    place = line.place;
    words = line.words;
    word = word_at message line.place;
    times = line.times;
    kind = line.kind;
  }

  -- A line, with its newline. The message's first word lies at the byte `start` of the stream, and no slot is more than
  -- `levels` objects deep. `words` has what the visits make of each word of the message.
  abbrev pub line_text : (words : List Covered) → (start levels : ℕ) → Line → List ℕ
  line_text words start levels line =
      front_text (columns_record start line) (way_of message words levels line) (saying_of message line)
      ++ (rest_text message line.kind line ++ tail_text line.cut line.overlap)

-- ---- one text of each kind

a_slack : saying_text (says.Unread 2 1) ≡ codes "2 words, 1 not zero"
unfolding digits
a_slack = refl

padding_of_bits : padding_text widths.W1 7 true ≡ codes ", padding 7 bits not zero"
unfolding digits
padding_of_bits = refl
