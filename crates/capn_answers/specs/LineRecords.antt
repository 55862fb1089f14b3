-- The lines of a message as C reads them. (Our own.)
use Rattle.std.specs.Prelude.{ℕ, ◌+◌, ◌*◌, Bool, false, List, length, Option, Some, None, if◌then◌else◌}
use Rattle.capn_words.specs.declared.space.Place.{Place}
use Rattle.capn_walk.specs.Accepted.{root}
use Rattle.capn_stream.specs.FrameRefusal.{head_length}
use Rattle.capn_canon.specs.declared.form.Form.{Form}
use Rattle.capn_canon.specs.declared.form.Form.TheVariants as forms
use Rattle.capn_cover.specs.Numbers.{number, place_from}
use Rattle.capn_lines.specs.Kinds.{code_of}
use Rattle.capn_lines.specs.Lists.{list_part}
use Rattle.capn_lines.specs.declared.kind.Kind.{Kind}
use Rattle.capn_lines.specs.declared.kind.Kind.TheVariants as kinds
use Rattle.capn_lines.specs.declared.line.Line.{Line}
use Rattle.capn_answers.specs.declared.line_record.CapnLine.{CapnLine}

-- the place, or the root's if there is none
abbrev pub place_or_root : Option Place → Place
place_or_root (Some at) = at
place_or_root None = root

-- the number of bytes before the words of a message: the length of the segment table, or 0 for bare words
abbrev pub table_bytes : Form → List (List ℕ) → ℕ
table_bytes forms.Bare message = 0
table_bytes form message = head_length (length message)

module _ (message : List (List ℕ)) where
  -- the place of the slot with the given number
  abbrev pub slot_place : (slot : ℕ) → Place
  slot_place slot = place_or_root (place_from 0 message slot)

  -- the padding of a list in the words of a line, which is of the given kind, is not zero
  abbrev pub hides_padding : Kind → Line → Bool
  hides_padding kinds.List line = (list_part message line).padding_not_zero
  hides_padding _ line = false

-- a line in the layout that C reads, if the message comes after a table of `table` bytes
abbrev pub c_line : (table : ℕ) → List (List ℕ) → Line → CapnLine
c_line table message line = record {
  offset = table + 8 * number message line.place;
  segment = line.place.segment;
  word = line.place.word;
  words = line.words;
  times = line.times;
  slot_segment = (slot_place message line.slot).segment;
  slot_word = (slot_place message line.slot).word;
  cut = line.cut;
  not_zero = line.not_zero;
  kind = code_of line.kind;
  flags = (if line.overlap then 1 else 0) + (if hides_padding message line.kind line then 2 else 0);
}
