-- Laws: the bytes at the offset of an entry are the words at the entry's place. (Our own.)
use Rattle.std.specs.Prelude.{◌≡◌, ◌≢◌, ℕ, ◌+◌, ◌*◌, ◌<◌, ◌≤◌, List, length, take, drop, get_or, ⊤}
use Rattle.capn_words.specs.Message.{bytes_at}
use Rattle.capn_words.specs.declared.space.Place.{Place}
use Rattle.capn_walk.specs.Index.{index_of, entry_at, entry_target}
use Rattle.capn_walk.specs.Limits.{Bounds}
use Rattle.capn_target.specs.Shapes.{IsContent, extent}
use Rattle.capn_walk.specs.declared.entry.Entry.{Entry}
use Rattle.capn_target.specs.declared.target.Target.{Target}
use Rattle.capn_target.specs.declared.target.Target.TheVariants as targets
use Rattle.capn_canon.specs.Reads.{Reads}
use Rattle.capn_canon.specs.declared.form.Form.{Form}
use Rattle.capn_canon.specs.declared.form.Form.TheVariants as forms
use Rattle.capn_c.specs.Entries.{IndexedIn, c_entry, starts_from, table_length}
use Rattle.capn_c.specs.declared.entries.CapnEntry.{CapnEntry}

-- From `offset` on, `bs` has the bytes of `words` words of `message`: the words from the place `at` on.
pub record StandAt (bs : List ℕ) (offset : ℕ) (message : List (List ℕ)) (at : Place) (words : ℕ) : Type 0 where
  pub inside : offset + 8 * words ≤ length bs
  pub same : take (8 * words) (drop offset bs) ≡ bytes_at message at (8 * words)

-- If the target has content, the bytes of that content in `message` are in `bs` at `offset`.
abbrev pub StandsAt : List ℕ → ℕ → List (List ℕ) → Target → Type 0
StandsAt bs offset message (targets.Content s start shape pads) =
    StandAt bs offset message (record { segment = s; word = start }) (extent shape)
StandsAt bs offset message _ = ⊤

-- The segment and the word at which the target of an entry begins.
abbrev pub entry_place : Entry → Place
entry_place e = record { segment = e.segment; word = e.start }

-- Suppose that `bs`, a stream or bare words, are read as a message. Then the words at the place of any entry are in
-- `bs`, at the offset that C reads in the entry.
abbrev pub OffsetsAreOfPlaces : Type 0
OffsetsAreOfPlaces = (form : Form) (bs : List ℕ) (most : ℕ) (message : List (List ℕ)) → form ≢ forms.Packed
    → Reads form bs most message → (e : Entry) (words : ℕ) → IsContent message (entry_place e) words
    → StandAt bs (c_entry (table_length form message) (starts_from 0 message) e).offset message (entry_place e) words

-- Suppose that `bs` are a stream or bare words, and that `new` has the index of `bs`. Then the content of each slot's
-- target is in `bs`, at the offset of the slot's entry.
abbrev pub OffsetsAreOfContents : Type 0
OffsetsAreOfContents = (form : Form) (bs : List ℕ) (limits : Bounds) (old new : List CapnEntry) → form ≢ forms.Packed
    → (h : IndexedIn form bs limits old new) → (i : ℕ) → i < length (index_of h.message limits) → (none : CapnEntry)
    → StandsAt bs (get_or new i none).offset h.message (entry_target (entry_at (index_of h.message limits) i))
