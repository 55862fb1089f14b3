-- Findings about the slot at which the walk over a message stopped, such as its landing pad and its tag. (Our own.)
use Rattle.std.specs.Prelude.{ℕ, ◌+◌, ◌-◌, ◌*◌, ◌==◌, nat_lt, ℤ, pos, negsuc, ◌+ℤ◌, Bool, true, false, List, length}
use Rattle.std.specs.Prelude.{Option, Some, None, Result, Ok, Err, if◌then◌else◌}
use Rattle.capn_words.specs.Message.{segment_at, word_at}
use Rattle.capn_words.specs.Pointers.{field}
use Rattle.capn_words.specs.declared.space.Place.{Place}
use Rattle.capn_words.specs.declared.pointer.Pointer.{Pointer}
use Rattle.capn_words.specs.declared.pointer.Pointer.TheVariants.{Nil, Node, Many, Far, Cap, Reserved}
use Rattle.capn_words.specs.declared.pointer.Width.TheVariants.{Rows}
use Rattle.capn_value.specs.Cost.{base}
use Rattle.capn_target.specs.Target.{content_words, is_second_pad, pointer_in, target}
use Rattle.capn_target.specs.declared.target.Target.{Target}
use Rattle.capn_target.specs.declared.target.Fault.{Fault}
use Rattle.capn_target.specs.declared.target.Fault.TheVariants as faults
use Rattle.capn_walk.specs.Limits.{Bounds}
use Rattle.capn_walk.specs.View.{toll}
use Rattle.capn_walk.specs.declared.walk_answer.Stopped.{Stopped}
use Rattle.capn_diagnostics.specs.PlaceByte.{place_byte}
use Rattle.capn_diagnostics.specs.declared.slot_text.SlotText.{SlotText}
use Rattle.capn_diagnostics.specs.declared.telling.Telling.{Telling}
use Rattle.capn_diagnostics.specs.declared.examined.Pad.{Pad}
use Rattle.capn_diagnostics.specs.declared.examined.Pad.TheVariants as pads
use Rattle.capn_diagnostics.specs.declared.examined.Stretch.{Stretch}
use Rattle.capn_diagnostics.specs.declared.examined.RowWords.{RowWords}
use Rattle.capn_diagnostics.specs.declared.examined.Limit.{Limit}
use Rattle.capn_diagnostics.specs.declared.examined.Limit.TheVariants as bounds

-- The length in words of the content of a struct pointer or list pointer, and 0 for any other pointer.
abbrev pub words_told : Pointer → ℕ
words_told (Node o a b) = a + b
words_told (Many o width n) = content_words width n
words_told _ = 0

-- The reference (`Telling`) of a pointer to a struct or list at word `w` of segment `s`, or `None` for any other
-- pointer.
abbrev pub told_near : ℕ → ℕ → Pointer → Option Telling
told_near s w (Node o a b) = Some (record { segment = s; from = w + 1; offset = o; form = Node o a b })
told_near s w (Many o width n) = Some (record { segment = s; from = w + 1; offset = o; form = Many o width n })
told_near s w _ = None

-- The number of the word at the given offset from word `from`, or `None` if that number would be less than 0.
abbrev pub begins : ℕ → ℤ → Option ℕ
begins from (pos n) = Some (from + n)
begins from (negsuc n) = if nat_lt n from then Some (from - (n + 1)) else None

-- The rows that `tag` counts: their number, the words of one row, and the words of all rows. `span` is the number of
-- words that the list's pointer gives to the rows.
abbrev pub row_words : ℕ → ℕ → RowWords
row_words tag span = record {
  count = field 2 30 tag;
  each = field 32 16 tag + field 48 16 tag;
  words = field 2 30 tag * (field 32 16 tag + field 48 16 tag);
  span = span;
}

-- The price in words of the visit of a slot with the target `found`, or 0 if the slot has a fault. Each object costs
-- `each` words in addition to its size.
abbrev pub asked : ℕ → Result Target Fault → ℕ
asked each (Ok found) = toll each found
asked each (Err e) = 0

-- The rows that `tag` counts, if the pointer is one to a list of structs, or else `None`.
abbrev pub rows_by : ℕ → Pointer → Option RowWords
rows_by tag (Many o Rows n) = Some (row_words tag n)
rows_by tag _ = None

module _ (message : List (List ℕ)) where
  -- True if the `n` words from word `w` of segment `s` on are in the segment.
  abbrev pub has_words : ℕ → ℕ → ℕ → Bool
  has_words s w n = if nat_lt (length (segment_at message s)) (w + n) then false else true

  -- ---- the reference of a pointer to content

  -- The reference (`Telling`) of a landing pad of two words. Its content is at word `w` of segment `s`, and the second
  -- word, `form`, gives the kind and size of the content. `None` if segment `s` does not exist.
  abbrev pub told_there : ℕ → ℕ → Pointer → Option Telling
  told_there s w form =
      if nat_lt s (length message) then Some (record { segment = s; from = w; offset = pos 0; form = form }) else None

  -- The reference of a landing pad with the given two words, if they are a valid pad and the content's segment exists.
  abbrev pub told_two : Pointer → Pointer → Option Telling
  told_two (Far false w s) tag = if is_second_pad message tag then told_there s w tag else None
  told_two _ tag = None

  -- The reference of a pointer at word `w` of segment `s`. For a far pointer, the result is the reference of its
  -- landing pad, or `None` if the pad is not in its segment, or has no reference.
  abbrev pub told_by : ℕ → ℕ → Pointer → Option Telling
  told_by s w (Far false v t) = if has_words t v 1 then told_near t v (pointer_in message t v) else None
  told_by s w (Far true v t) =
      if has_words t v 2 then told_two (pointer_in message t v) (pointer_in message t (v + 1)) else None
  told_by s w near_pointer = told_near s w near_pointer

  -- The reference of the pointer in the slot at `at`, or `None` if the pointer leads to no content.
  abbrev pub told : Place → Option Telling
  told at = told_by at.segment at.word (pointer_in message at.segment at.word)

  -- ---- `content`

  -- The words to which the reference `t` leads.
  abbrev pub stretch : Telling → Stretch
  stretch t = record {
    segment = t.segment;
    start = pos t.from +ℤ t.offset;
    end = pos (t.from + words_told t.form) +ℤ t.offset;
    length = length (segment_at message t.segment);
  }

  -- For `Some t`, the words to which the reference `t` leads. For `None`, the result is `None`.
  abbrev pub stretch_told : Option Telling → Option Stretch
  stretch_told None = None
  stretch_told (Some t) = Some (stretch t)

  -- The `n` words of segment `s` from word `w` on.
  abbrev pub words_at : ℕ → ℕ → ℕ → Stretch
  words_at s w n =
      record { segment = s; start = pos w; end = pos (w + n); length = length (segment_at message s) }

  -- The words of the landing pad of a far pointer, even if they are not in their segment. `None` for any other pointer.
  abbrev pub pad_stretch : Pointer → Option Stretch
  pad_stretch (Far false w s) = Some (words_at s w 1)
  pad_stretch (Far true w s) = Some (words_at s w 2)
  pad_stretch _ = None

  -- The words that the fault of the slot at `at` is about. For `Range` and `TagOverrun` they are the content, and for
  -- `PadRange` the landing pad. For any other fault, the result is `None`.
  abbrev pub content_of : Place → Fault → Option Stretch
  content_of at faults.Range = stretch_told (told at)
  content_of at faults.TagOverrun = stretch_told (told at)
  content_of at faults.PadRange = pad_stretch (pointer_in message at.segment at.word)
  content_of at _ = None

  -- ---- `tag` and `rows`

  -- The place of a tag at word `start` of segment `s`, or `None`. The tag and the `n` words after it have to be in the
  -- segment.
  abbrev pub tag_from : ℕ → ℕ → Option ℕ → Option Place
  tag_from s n None = None
  tag_from s n (Some start) = if has_words s start (1 + n) then Some (record { segment = s; word = start }) else None

  -- The place of the tag of a list of structs, at `offset` from word `from` of segment `s`. `None` for any other
  -- pointer, or if the list is not in its segment.
  abbrev pub tag_told : ℕ → ℕ → ℤ → Pointer → Option Place
  tag_told s from offset (Many o Rows n) = tag_from s n (begins from offset)
  tag_told s from offset _ = None

  -- The place of a list's tag, if the reference `t` leads to a list of structs that is in its segment. Otherwise
  -- `None`.
  abbrev pub tag_in : Option Telling → Option Place
  tag_in None = None
  tag_in (Some t) = tag_told t.segment t.from t.offset t.form

  -- The place of a list's tag, if the slot at `at` leads to a list of structs that is in its segment. Otherwise `None`.
  abbrev pub tag_at : Place → Option Place
  tag_at at = tag_in (told at)

  -- The rows of the list of structs to which the reference `t` leads, as the tag at `at` counts them.
  abbrev pub rows_in : Option Telling → Option Place → Option RowWords
  rows_in (Some t) (Some at) = rows_by (word_at message at) t.form
  rows_in t at = None

  -- The rows of the list of structs to which the slot at `at` leads, if the fault is `TagOverrun`. `None` for any other
  -- fault.
  abbrev pub rows_of : Place → Fault → Option RowWords
  rows_of at faults.TagOverrun = rows_in (told at) (tag_at at)
  rows_of at _ = None

  -- ---- `limit`

  -- The limit that one of the faults `TooDeep`, `OverBudget` and `NoSegment` is about, or `None` for any other fault.
  abbrev pub limit_of : Bounds → Place → ℕ → Fault → Option Limit
  limit_of limits at paid faults.TooDeep = Some (bounds.Depth limits.depth)
  limit_of limits at paid faults.OverBudget = Some (bounds.Budget (asked (base limits.tariff) (target message at))
      (limits.budget - paid) limits.budget)
  limit_of limits at paid faults.NoSegment = Some (bounds.Segments (length message))
  limit_of limits at paid _ = None

  -- ---- `slot` and `pad`

  module _ (offset table : ℕ) where
    -- The word at `at` with its offset in bytes.
    abbrev pub placed : Place → SlotText
    placed at = record { byte = place_byte offset table message at; place = at; word = word_at message at }

    -- For `Some at`, the word at `at` with its offset in bytes. For `None`, the result is `None`.
    abbrev pub placed_some : Option Place → Option SlotText
    placed_some None = None
    placed_some (Some at) = Some (placed at)

    -- The tag of the list of structs to which the slot at `at` leads, or `None`. The list has to be in its segment.
    abbrev pub tag_of : Place → Option SlotText
    tag_of at = placed_some (tag_at at)

    -- The landing pad of one word at word `w` of segment `s`, or `Absent` if this word is not in the segment.
    abbrev pub pad_of_one : ℕ → ℕ → Pad
    pad_of_one s w =
        if has_words s w 1 then pads.One (placed (record { segment = s; word = w })) else pads.Absent

    -- The landing pad of two words at word `w` of segment `s`, or `Absent` if these words are not both in the segment.
    abbrev pub pad_of_two : ℕ → ℕ → Pad
    pad_of_two s w =
        if has_words s w 2
        then pads.Two (placed (record { segment = s; word = w })) (placed (record { segment = s; word = w + 1 }))
        else pads.Absent

    -- The landing pad of a pointer, or `Absent` if the pointer is not far or the pad is not in its segment.
    abbrev pub pad_by : Pointer → Pad
    pad_by (Far false w s) = pad_of_one s w
    pad_by (Far true w s) = pad_of_two s w
    pad_by _ = pads.Absent

    -- The landing pad of the pointer in the slot at `at`.
    abbrev pub pad_of : Place → Pad
    pad_of at = pad_by (pointer_in message at.segment at.word)
