-- The elements of a list that the words of a line have, and the bits behind a list's last element. (Page: lists.)
use Rattle.std.specs.Prelude.{ℕ, ◌+◌, ◌-◌, ◌*◌, ◌/◌, ◌^◌, ◌==◌, min, Bool, false, not, ◌&&◌, List}
use Rattle.std.specs.Prelude.{Result, Ok, Option, Some, None, if◌then◌else◌}
use Rattle.capn_words.specs.Message.{word_at}
use Rattle.capn_words.specs.declared.space.Place.{Place}
use Rattle.capn_words.specs.declared.pointer.Width.{Width}
use Rattle.capn_words.specs.declared.pointer.Width.TheVariants.{W0, W1, W8, W16, W32}
use Rattle.capn_target.specs.declared.target.Target.{Target}
use Rattle.capn_target.specs.declared.target.Target.TheVariants as targets
use Rattle.capn_target.specs.declared.target.Shape.TheVariants as shapes
use Rattle.capn_target.specs.declared.target.Fault.{Fault}
use Rattle.capn_target.specs.Target.{bits_of, content_words, target}
use Rattle.capn_cover.specs.Numbers.{place_from}
use Rattle.capn_lines.specs.declared.line.Line.{Line}
use Rattle.capn_lines.specs.declared.list_parts.Elements.{Elements}
use Rattle.capn_lines.specs.declared.list_parts.ListPart.{ListPart}

-- the list to which a slot leads: its first word, and the width and the number of its elements
abbrev pub elements_of : Result Target Fault → Option Elements
elements_of (Ok (targets.Content s start (shapes.Many width n) pads)) =
    Some (record { place = record { segment = s; word = start }; width = width; count = n })
elements_of _ = None

-- the number of elements that a word has
abbrev pub elements_in_word : Width → ℕ
elements_in_word W0 = 0
elements_in_word W1 = 64
elements_in_word W8 = 8
elements_in_word W16 = 4
elements_in_word W32 = 2
elements_in_word _ = 1

-- the number of bits of the list's last word behind the last element
abbrev pub padding_bits : Elements → ℕ
padding_bits e = 64 * content_words e.width e.count - bits_of e.width * e.count

-- the word with the given index in its segment is the list's last word
abbrev pub is_last : Elements → (word : ℕ) → Bool
is_last e word = (word + 1) == (e.place.word + content_words e.width e.count)

-- a bit of the list's last word behind the last element is 1
abbrev pub has_bits_behind : Elements → (word : ℕ) → Bool
has_bits_behind e word = not (word / 2 ^ (64 - padding_bits e) == 0)

-- what `n` words from the word `first` on, of which the last one is `word`, have of the list
abbrev pub part_of : Elements → (first n word : ℕ) → ListPart
part_of e first n word =
    let begin = (first - e.place.word) * elements_in_word e.width in
    let end = (first - e.place.word + n) * elements_in_word e.width in
    let last = is_last e (first + n - 1) in
    record {
      width = e.width;
      first = begin;
      count = min end e.count - begin;
      last = last;
      padding = if last then padding_bits e else 0;
      padding_not_zero = last && has_bits_behind e word;
    }

module _ (message : List (List ℕ)) where
  -- the list to which the slot at a place leads
  abbrev pub list_at : Option Place → Option Elements
  list_at None = None
  list_at (Some at) = elements_of (target message at)

  -- the list to which the slot with the given number leads
  abbrev pub list_of : (slot : ℕ) → Option Elements
  list_of slot = list_at (place_from 0 message slot)

  -- what the words of a line have of the given list, or of no list
  abbrev pub part_in : Option Elements → Line → ListPart
  part_in (Some e) line =
      part_of e line.place.word line.words
      (word_at message (record { segment = line.place.segment; word = line.place.word + line.words - 1 }))
  part_in None line =
      record { width = W0; first = 0; count = 0; last = false; padding = 0; padding_not_zero = false }

  -- what the words of a line have of the list to which the line's slot leads
  abbrev pub list_part : Line → ListPart
  list_part line = part_in (list_of line.slot) line

  -- the word at a place, `word`, is the last one of the given list, and a bit behind the list's last element is 1
  abbrev pub hides_in_list : Option Elements → Place → (word : ℕ) → Bool
  hides_in_list (Some e) at word = is_last e at.word && has_bits_behind e word
  hides_in_list None at word = false

  -- the same, of the list to which the slot with the given number leads
  abbrev pub hides_padding : (slot : ℕ) → Place → (word : ℕ) → Bool
  hides_padding slot at word = hides_in_list (list_of slot) at word
