-- The places to which slots and pointers lead. (Page: structs, lists, inter-segment pointers.)
use Rattle.std.specs.Prelude.{ℕ, ◌^◌, nat_lt, Bool, false, not, List, Option, Some, None, Result, Ok, Err}
use Rattle.std.specs.Prelude.{if◌then◌else◌}
use Rattle.capn_words.specs.declared.space.Place.{Place}
use Rattle.capn_words.specs.declared.pointer.Pointer.{Pointer}
use Rattle.capn_words.specs.declared.pointer.Pointer.TheVariants.{Node, Many, Far}
use Rattle.capn_target.specs.declared.target.Target.{Target}
use Rattle.capn_target.specs.declared.target.Target.TheVariants as targets
use Rattle.capn_target.specs.declared.target.Fault.{Fault}
use Rattle.capn_target.specs.Target.{content_start, pointer_in, target}
use Rattle.capn_cover.specs.Numbers.{place_from}

-- The target of a slot, or null for a slot with a fault.
abbrev pub target_or_nil : Result Target Fault → Target
target_or_nil (Ok found) = found
target_or_nil (Err e) = targets.Nil

-- `pointer` is a far pointer whose landing pad is one word.
abbrev pub is_single_far : Pointer → Bool
is_single_far (Far double word segment) = not double
is_single_far _ = false

module _ (message : List (List ℕ)) where
  -- The target of the slot at a place, or null if there is no place.
  abbrev pub leads_from : Option Place → Target
  leads_from None = targets.Nil
  leads_from (Some at) = target_or_nil (target message at)

  -- The target of the slot with the number `slot`.
  abbrev pub leads_to : (slot : ℕ) → Target
  leads_to slot = leads_from (place_from 0 message slot)

  -- The slot at a place has a far pointer whose landing pad is one word.
  abbrev pub has_one_pad_at : Option Place → Bool
  has_one_pad_at None = false
  has_one_pad_at (Some at) = is_single_far (pointer_in message at.segment at.word)

  -- The slot with the number `slot` has a far pointer whose landing pad is one word.
  abbrev pub has_one_pad : (slot : ℕ) → Bool
  has_one_pad slot = has_one_pad_at (place_from 0 message slot)

-- The place at a word of a segment, if the start of a content is in range.
abbrev pub start_place : (segment : ℕ) → Result ℕ Fault → Option Place
start_place segment (Ok word) =
    if nat_lt word (2 ^ 32) then Some (record { segment = segment; word = word }) else None
start_place segment (Err e) = None

-- The place at which the content of a struct or list pointer starts. The pointer is at `at`, and counts from there.
abbrev pub content_place : Place → Pointer → Option Place
content_place at (Node offset words slots) = start_place at.segment (content_start at.word offset)
content_place at (Many offset width n) = start_place at.segment (content_start at.word offset)
content_place at _ = None
