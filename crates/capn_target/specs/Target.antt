-- The target of the pointer at a place of a message, or the first fault of that pointer.
use Rattle.std.specs.Prelude.{ℕ, ◌+◌, ◌-◌, ◌*◌, ◌/◌, nat_lt, ◌==◌, ℤ, pos, negsuc, Bool, true, false, List, length}
use Rattle.std.specs.Prelude.{slice_index, Result, Ok, Err, if◌then◌else◌}
use Rattle.capn_words.specs.Message.{segment_at}
use Rattle.capn_words.specs.declared.space.Place.{Place}
use Rattle.capn_words.specs.declared.pointer.Pointer.{Pointer}
use Rattle.capn_words.specs.declared.pointer.Pointer.TheVariants.{Nil, Node, Many, Far, Cap, Reserved}
use Rattle.capn_words.specs.declared.pointer.Width.{Width}
use Rattle.capn_words.specs.declared.pointer.Width.TheVariants.{W0, W1, W8, W16, W32, W64, Link, Rows}
use Rattle.capn_value.specs.NumberWidth.{NumberWidth, bit, byte, pair, quad, oct, bits_in}
use Rattle.capn_target.specs.declared.target.Target.{Target}
use Rattle.capn_target.specs.declared.target.Target.TheVariants as targets
use Rattle.capn_target.specs.declared.target.Shape.TheVariants as shapes
use Rattle.capn_target.specs.declared.target.Fault.{Fault}
use Rattle.capn_target.specs.declared.target.Fault.TheVariants as faults
use Rattle.capn_words.specs.Pointers.{field, pointer_of}

-- the `Width` that the pointer to a list has, if the list's numbers have the given `NumberWidth`
abbrev pub list_width : NumberWidth → Width
list_width bit = W1
list_width byte = W8
list_width pair = W16
list_width quad = W32
list_width oct = W64

-- the number of words that `n` bits need
abbrev pub words_for : ℕ → ℕ
words_for n = (n + 63) / 64

-- The number of words of the content of a list of `n` elements. For a composite list, `n` is a number of words, and the
-- tag word is added.
abbrev pub content_words : Width → ℕ → ℕ
content_words W0 n = 0
content_words W1 n = words_for n
content_words W8 n = words_for (bits_in byte * n)
content_words W16 n = words_for (bits_in pair * n)
content_words W32 n = words_for (bits_in quad * n)
content_words W64 n = n
content_words Link n = n
content_words Rows n = 1 + n

-- The index of the word that `offset` leads to. The offset counts from the word after a pointer at `word`. An index
-- below 0 is the fault `Range`. (Our own.)
abbrev pub content_start : (word : ℕ) (offset : ℤ) → Result ℕ Fault
content_start w (pos n) = Ok (w + 1 + n)
content_start w (negsuc n) = if nat_lt w n then Err faults.Range else Ok (w - n)

module _ (message : List (List ℕ)) where
  -- The composite list whose content starts with the tag word `tag`, or the fault of the tag word. The count in the tag
  -- word is unsigned, and the rows may leave words unused. (Our own: both.)
  abbrev pub tagged : (segment start pads span tag : ℕ) → Result Target Fault
  tagged s start pads span tag =
      if field 0 2 tag == 0
      then if nat_lt span (field 2 30 tag * (field 32 16 tag + field 48 16 tag)) then Err faults.TagOverrun
      else Ok (targets.Content s start (shapes.Rows (field 2 30 tag) (field 32 16 tag) (field 48 16 tag) span) pads)
      else Err faults.BadTag

  -- `found` if `n` words from `start` on are within the segment, otherwise `Range` (our own: `n` may be 0)
  abbrev pub if_inside : (segment start n : ℕ) → Result Target Fault → Result Target Fault
  if_inside s start n found = if nat_lt (length (segment_at message s)) (start + n) then Err faults.Range else found

  -- The list whose content starts at `start`, or the fault of its range or of its tag word. The content is rows after a
  -- tag word, or elements of one width.
  abbrev pub list : (segment start pads : ℕ) → Width → (n : ℕ) → Result Target Fault
  list s start pads Rows n =
      if_inside s start (1 + n) (tagged s start pads n (slice_index (segment_at message s) start))
  list s start pads width n =
      if_inside s start (content_words width n) (Ok (targets.Content s start (shapes.Many width n) pads))

  -- the struct whose content starts at `start`, with the given sizes of its sections, or the fault of its range
  abbrev pub struct : (segment start pads data_words pointers : ℕ) → Result Target Fault
  struct s start pads data_words pointers =
      if_inside s start (data_words + pointers) (Ok (targets.Content s start (shapes.Node data_words pointers) pads))

  -- the struct whose content starts at the given word, or the given fault of the start
  abbrev pub struct_from : (segment : ℕ) → Result ℕ Fault → (pads data_words pointers : ℕ) → Result Target Fault
  struct_from s (Ok start) pads data_words pointers = struct s start pads data_words pointers
  struct_from s (Err e) pads data_words pointers = Err e

  -- the list whose content starts at the given word, or the given fault of the start
  abbrev pub list_from : (segment : ℕ) → Result ℕ Fault → (pads : ℕ) → Width → (n : ℕ) → Result Target Fault
  list_from s (Ok start) pads width n = list s start pads width n
  list_from s (Err e) pads width n = Err e

  -- The struct or list that the given pointer leads to, or the fault. The pointer is at `word` of the segment, and is
  -- the slot's own pointer or a landing pad of one word.
  abbrev pub target_from : (segment word pads : ℕ) → Pointer → Result Target Fault
  target_from s w pads (Node o data_words pointers) = struct_from s (content_start w o) pads data_words pointers
  target_from s w pads (Many o width n) = list_from s (content_start w o) pads width n
  target_from s w pads _ = Err faults.BadPad

  -- The content at `start` that the second word of a two-word landing pad describes, or the fault. Null describes a
  -- struct without words, and the offset of a struct or list pointer is ignored. (Our own: both.) Any other pointer is
  -- `BadPad`.
  abbrev pub second_pad : (segment start : ℕ) → Pointer → Result Target Fault
  second_pad s start Nil = struct s start 2 0 0
  second_pad s start (Node o data_words pointers) = struct s start 2 data_words pointers
  second_pad s start (Many o width n) = list s start 2 width n
  second_pad s start _ = Err faults.BadPad

  -- true if the pointer may be the second word of a pad of two: null, or a pointer to a struct or a list
  abbrev pub is_second_pad : Pointer → Bool
  is_second_pad Nil = true
  is_second_pad (Node o data_words pointers) = true
  is_second_pad (Many o width n) = true
  is_second_pad _ = false

  -- The target that a pad of two words leads to, or the fault. The first word has to be a far pointer to the content,
  -- and the second word has to describe the content.
  abbrev pub two_pads : Pointer → Pointer → Result Target Fault
  two_pads (Far false w s) tag =
      if is_second_pad tag
      then if nat_lt s (length message) then second_pad s w tag else Err faults.NoSegment
      else Err faults.BadPad
  two_pads _ tag = Err faults.BadPad

  -- the pointer at `word` of the segment
  abbrev pub pointer_in : (segment word : ℕ) → Pointer
  pointer_in s w = pointer_of (slice_index (segment_at message s) w)

  -- `found` if a landing pad of `n` words at `word` is within an existing segment, otherwise the fault of the pad
  abbrev pub landing : (segment word n : ℕ) → Result Target Fault → Result Target Fault
  landing s w n found =
      if nat_lt s (length message)
      then if nat_lt (length (segment_at message s)) (w + n) then Err faults.PadRange else found
      else Err faults.NoSegment

  -- the target of the given pointer, which is at `word` of the segment (our own: the order of the faults)
  abbrev pub target_of_pointer : (segment word : ℕ) → Pointer → Result Target Fault
  target_of_pointer s w Nil = Ok targets.Nil
  target_of_pointer s w (Cap k) = Ok (targets.Cap k)
  target_of_pointer s w (Reserved n) = Err faults.Reserved
  target_of_pointer s w (Far false v t) = landing t v 1 (target_from t v 1 (pointer_in t v))
  target_of_pointer s w (Far true v t) = landing t v 2 (two_pads (pointer_in t v) (pointer_in t (v + 1)))
  target_of_pointer s w near_pointer = target_from s w 0 near_pointer

  -- the target of the pointer at the place `at`
  unfoldable pub target : Place → Result Target Fault
  target at = target_of_pointer at.segment at.word (pointer_in at.segment at.word)

-- ---- read to here for the theorem

-- the number of bits of an element, or for a composite list the number of bits of a word
abbrev pub bits_of : Width → ℕ
bits_of W0 = 0
bits_of W1 = bits_in bit
bits_of W8 = bits_in byte
bits_of W16 = bits_in pair
bits_of W32 = bits_in quad
bits_of _ = 64
