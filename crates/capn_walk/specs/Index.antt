-- The index of a message: an entry for each visit of the walk, in the order of the visits.
use Rattle.std.specs.Prelude.{◌≡◌, ℕ, zero, suc, ◌+◌, ◌*◌, ◌<◌, ◌≤◌, List, [], ◌∷◌, ◌++◌, length, take, drop}
use Rattle.std.specs.Prelude.{get_or, map, Result, Ok, Err}
use Rattle.std.specs.List.{flat_map}
use Rattle.capn_words.specs.declared.space.Place.{Place}
use Rattle.capn_words.specs.declared.pointer.Width.{Width}
use Rattle.capn_words.specs.declared.pointer.Width.TheVariants.{W0, W1, W8, W16, W32, W64, Link, Rows}
use Rattle.capn_walk.specs.declared.entry.Entry.{Entry}
use Rattle.capn_walk.specs.declared.entry.Indexed.{Indexed}
use Rattle.capn_target.specs.declared.target.Target.{Target}
use Rattle.capn_target.specs.declared.target.Target.TheVariants as targets
use Rattle.capn_target.specs.declared.target.Shape.TheVariants as shapes
use Rattle.capn_target.specs.declared.target.Fault.{Fault}
use Rattle.capn_walk.specs.declared.kind.Kind.{Kind}
use Rattle.capn_walk.specs.declared.kind.Kind.TheVariants as kinds
use Rattle.capn_target.specs.Target.{target}
use Rattle.capn_walk.specs.Accepted.{root, IsAccepted, visits_within, paid, number_of_visits}
use Rattle.capn_walk.specs.Visits.{Visit, pays, fails}
use Rattle.capn_walk.specs.Limits.{Bounds}
use Rattle.capn_walk.specs.View.{slots_below, kind_of_list}
use Rattle.capn_target.specs.Shapes.{IsInMessage}

-- the entry of a slot with the given target and the span `n`
abbrev pub entry_of : Target → ℕ → Entry
entry_of targets.Nil n =
    record { start = 0; segment = 0; count = 0; span = n; words = 0; slots = 0; kind = kinds.Nil }
entry_of (targets.Cap k) n =
    record { start = 0; segment = 0; count = k; span = n; words = 0; slots = 0; kind = kinds.Cap }
entry_of (targets.Content s start (shapes.Node a b) pads) n =
    record { start = start; segment = s; count = 0; span = n; words = a; slots = b; kind = kinds.Node }
entry_of (targets.Content s start (shapes.Many width c) pads) n =
    record { start = start; segment = s; count = c; span = n; words = 0; slots = 0; kind = kind_of_list width }
entry_of (targets.Content s start (shapes.Rows c a b span) pads) n =
    record { start = start; segment = s; count = c; span = n; words = a; slots = b; kind = kinds.Rows }

-- the entry of a slot with the target `found`, and then `below`, the entries of all slots below that slot
abbrev pub entered : Target → List Entry → List Entry
entered found below = entry_of found (1 + length below) ∷ below

module _ (message : List (List ℕ)) where
  -- the entries of a slot and of all slots below it, given the slot's target. `below` gives the entries for each slot
  -- of that target. A fault has only the entry of null.
  abbrev pub entries_by : (Place → List Entry) → Result Target Fault → List Entry
  entries_by below (Ok found) = entered found (flat_map below (slots_below found))
  entries_by below (Err e) = entered targets.Nil []

  -- the entries of the slot at `at` and of all slots below it, at most `d` objects deep
  unfoldable pub entries : ℕ → Place → List Entry
  entries zero at = entries_by (λ p. []) (target message at)
  entries (suc d) at = entries_by (entries d) (target message at)

  -- the entries of the slots at `ps` and of all slots below them, one slot after another
  abbrev pub entries_of : ℕ → List Place → List Entry
  entries_of d ps = flat_map (entries d) ps

-- the index of `message`: the entries of the root's slot and of all slots below it, at most `limits.depth` objects deep
abbrev pub index_of : List (List ℕ) → Bounds → List Entry
index_of message limits = entries message limits.depth root

-- `room` with its first items replaced by the items of `es`, as many of `es` as fit in `room`
abbrev pub filled : {A : Type 0} → List A → List A → List A
filled es room = take (length room) es ++ drop (length es) room

-- `message` is accepted, and `new` is `old` with as much of the message's index as fits (`filled`). `t` has the number
-- of words that the walk pays, and the number of visits. The index has an entry for each visit.
pub record IsIndexed (message : List (List ℕ)) (limits : Bounds) (old new : List Entry) (t : Indexed) : Type 0 where
  pub accepted : IsAccepted message limits
  pub entries : new ≡ filled (index_of message limits) old
  pub pays : t.paid ≡ paid message limits
  pub counts : t.visits ≡ number_of_visits message limits
  pub each : length (index_of message limits) ≡ number_of_visits message limits

-- `message` is accepted, and `new` is `old` with as much of the message's index as fits, each entry in `form`
-- (`filled`). `t` has the number of words that the walk pays, and the number of visits. The index has an entry for each
-- visit.
pub record IsIndexedAs {A : Type 0} (form : Entry → A) (message : List (List ℕ)) (limits : Bounds) (old new : List A)
    (t : Indexed) : Type 0 where
  pub accepted : IsAccepted message limits
  pub entries : new ≡ filled (map form (index_of message limits)) old
  pub pays : t.paid ≡ paid message limits
  pub counts : t.visits ≡ number_of_visits message limits
  pub each : length (index_of message limits) ≡ number_of_visits message limits

-- ---- the reader of an index

-- the target that is a list of elements of `width`, with the place and the count that entry `e` gives
abbrev pub elements : Entry → Width → Target
elements e width = targets.Content e.segment e.start (shapes.Many width e.count) 0

-- the target that entry `e` describes, given the kind of `e`
abbrev pub by_kind : Kind → Entry → Target
by_kind kinds.Nil e = targets.Nil
by_kind kinds.Cap e = targets.Cap e.count
by_kind kinds.Node e = targets.Content e.segment e.start (shapes.Node e.words e.slots) 0
by_kind kinds.Rows e =
    targets.Content e.segment e.start (shapes.Rows e.count e.words e.slots (e.count * (e.words + e.slots))) 0
by_kind kinds.Voids e = elements e W0
by_kind kinds.Bits e = elements e W1
by_kind kinds.Bytes e = elements e W8
by_kind kinds.Pairs e = elements e W16
by_kind kinds.Quads e = elements e W32
by_kind kinds.Octs e = elements e W64
by_kind kinds.Links e = elements e Link

abbrev pub entry_target : Entry → Target
entry_target e = by_kind e.kind e

-- the target without its landing pads, and for a composite list without spare words after the last row. This is the
-- target that an entry describes. (No target is a list `Many` of width `Rows`.)
abbrev pub kept : Target → Target
kept (targets.Content s start (shapes.Rows c a b span) pads) =
    targets.Content s start (shapes.Rows c a b (c * (a + b))) 0
kept (targets.Content s start (shapes.Many Rows c) pads) = targets.Content s start (shapes.Rows c 0 0 (c * (0 + 0))) 0
kept (targets.Content s start shape pads) = targets.Content s start shape 0
kept found = found

-- the target of a slot, as an entry describes that target (`kept`), or the slot's fault
abbrev pub kept_of : Result Target Fault → Result Target Fault
kept_of (Ok found) = Ok (kept found)
kept_of (Err e) = Err e

-- the entry at index `i` of `es`, or the entry of null if `i` is past the end of `es`
abbrev pub entry_at : List Entry → ℕ → Entry
entry_at es i = get_or es i (entry_of targets.Nil 1)

-- the places of the slots of the object that entry `i` of `es` describes
abbrev pub slots_at : List Entry → ℕ → List Place
slots_at es i = slots_below (entry_target (entry_at es i))

-- the index of the entry `j` slots after entry `i`, where each step to the next slot adds the span of the earlier entry
abbrev pub beside : List Entry → ℕ → ℕ → ℕ
beside es i zero = i
beside es i (suc j) = beside es (i + (entry_at es i).span) j

-- The content of entry `i` lies in a segment of `message`. The entries from index `i + 1` on, one span apart, describe
-- the targets of that content's slots (`kept_of`). The span of entry `i` covers entry `i` and the spans of
-- these entries, but nothing else, and does not go past the end of `es`.
pub record IsReadable (message : List (List ℕ)) (es : List Entry) (i : ℕ) : Type 0 where
  pub inside : IsInMessage message (entry_target (entry_at es i))
  pub below : (j : ℕ) → j < length (slots_at es i) → (beside es (i + 1) j < i + (entry_at es i).span)
      × (kept_of (target message (get_or (slots_at es i) j root))
      ≡ Ok (entry_target (entry_at es (beside es (i + 1) j))))
  pub span : beside es (i + 1) (length (slots_at es i)) ≡ i + (entry_at es i).span
  pub within : i + (entry_at es i).span ≤ length es

-- the first entry of the index of an accepted message is the root's entry, and `IsReadable` is true of each entry
abbrev pub IndexesAreReadable : Type 0
IndexesAreReadable = (message : List (List ℕ)) (limits : Bounds) → IsAccepted message limits
    → (kept_of (target message root) ≡ Ok (entry_target (entry_at (index_of message limits) 0)))
    × ((i : ℕ) → i < length (index_of message limits) → IsReadable message (index_of message limits) i)

-- the place of a visit
abbrev pub place_of : Visit → Place
place_of (pays at n) = at
place_of (fails at e) = at

-- the index of an accepted message has one entry for each visit, in the order of the visits. Each entry describes the
-- target of the visited slot (`kept_of`).
abbrev pub IndexesFollowVisits : Type 0
IndexesFollowVisits = (message : List (List ℕ)) (limits : Bounds) → IsAccepted message limits
    → map (λ e. Ok (entry_target e)) (index_of message limits)
    ≡ map (λ v. kept_of (target message (place_of v))) (visits_within message limits)
