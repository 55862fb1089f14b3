-- The complete explanation of a message that is refused in its walk. (Our own.)
use Rattle.std.specs.Prelude.{◌≡◌, ℕ, ◌<◌, List, [], ◌∷◌, length, Option, Some, None, codes, refl}
use Rattle.std.specs.Fmt.{digits}
use Rattle.capn_words.specs.Message.{segment_at}
use Rattle.capn_words.specs.declared.space.Place.{Place}
use Rattle.capn_target.specs.declared.target.Fault.TheVariants as faults
use Rattle.capn_walk.specs.Accepted.{root}
use Rattle.capn_walk.specs.Limits.{Bounds}
use Rattle.capn_walk.specs.declared.walk_answer.Stopped.{Stopped}
use Rattle.capn_path.specs.declared.holder.Holder.{Holder}
use Rattle.capn_path.specs.declared.holder.Holder.TheVariants as holders
use Rattle.capn_path.specs.Paths.{IsRefusedAt}
use Rattle.capn_path.specs.Holders.{IsHolderOrRoot, place}
use Rattle.capn_diagnostics.specs.PlaceByte.{place_byte}
use Rattle.capn_diagnostics.specs.Slot as slots
use Rattle.capn_diagnostics.specs.MessageTexts.{segments_of, refused_lines}
use Rattle.capn_diagnostics.specs.declared.examined.Examined.{Examined}
use Rattle.capn_diagnostics.specs.declared.examined_text.SlotLines.{SlotLines}
use Rattle.capn_diagnostics.specs.declared.holder_text.HolderText.{HolderText}
use Rattle.capn_diagnostics.specs.declared.holder_text.HolderText.TheVariants as texts
use Rattle.capn_diagnostics.specs.declared.message_text.MessageHead.{MessageHead}

-- The place at which a holder begins. A holder is a struct, a list of pointers, or a row.
abbrev pub beginning : Holder → Place
beginning (holders.Struct words slots at) = at
beginning (holders.Pointers count at) = at
beginning (holders.Row row count at) = at

module _ (message : List (List ℕ)) (offset table : ℕ) where
  -- The object that holds a slot, with the offset in bytes at which the object begins.
  abbrev pub with_byte : Holder → HolderText
  with_byte (holders.Struct words slots at) = texts.Struct words slots (place_byte offset table message at)
  with_byte (holders.Pointers count at) = texts.Pointers count (place_byte offset table message at)
  with_byte (holders.Row row count at) = texts.Row row count (place_byte offset table message at)

  -- For `Some holder`, the object `holder` with the offset in bytes at which it begins. For `None`, the result is
  -- `None`.
  abbrev pub with_byte_if : Option Holder → Option HolderText
  with_byte_if (Some holder) = Some (with_byte holder)
  with_byte_if None = None

  -- The findings about the slot at `stopped.place`, at which the walk stopped.
  abbrev pub examined_at : Bounds → Stopped → Examined
  examined_at limits stopped = record {
    slot = slots.placed message offset table stopped.place;
    pad = slots.pad_of message offset table stopped.place;
    tag = slots.tag_of message offset table stopped.place;
    content = slots.content_of message stopped.place stopped.fault;
    rows = slots.rows_of message stopped.place stopped.fault;
    limit = slots.limit_of message limits stopped.place stopped.paid stopped.fault;
  }

  -- `path` leads to the slot at `to`, and `text` is the text of the object that holds this slot. `text` is `None` for
  -- the slot of the root.
  pub record IsHolderText (path : List ℕ) (to : Place) (text : Option HolderText) : Type 0 where
    pub holder : Option Holder
    pub holds : IsHolderOrRoot message path to holder
    pub is : text ≡ with_byte_if holder

  -- `lines` has the `path` to the slot at which the walk stopped, the object that holds this slot, and the findings
  -- about this slot.
  pub record AreLinesOf (limits : Bounds) (path : List ℕ) (stopped : Stopped) (lines : SlotLines) : Type 0 where
    pub numbers : lines.path.now ≡ path
    pub holder : IsHolderText path stopped.place lines.holder
    pub examined : lines.examined ≡ examined_at limits stopped

  -- For `Some lines`, the message has a root, and `lines` are the lines of the slot at which the walk stopped. For
  -- `None`, the message has no root.
  abbrev pub AreLinesIf : Bounds → List ℕ → Stopped → Option SlotLines → Type 0
  AreLinesIf limits path stopped (Some lines) =
      (0 < length (segment_at message 0)) × AreLinesOf limits path stopped lines
  AreLinesIf limits path stopped None = length (segment_at message 0) ≡ 0

-- The head of the lines of `message`: the number `index` of messages before it, the `offset` of its table, and its
-- segments.
abbrev pub head : List (List ℕ) → ℕ → ℕ → MessageHead
head message index offset = record { index = index; offset = offset; segments = Some (segments_of message) }

-- `message` is refused within `limits`, as `stopped` says, and `text` has the lines that explain the refusal. If the
-- message has a root, these lines include the lines of the slot at which the walk stopped.
pub record IsRefusalTold (message : List (List ℕ)) (limits : Bounds) (index offset table : ℕ) (stopped : Stopped)
    (text : List ℕ) : Type 0 where
  pub path : List ℕ
  pub refused : IsRefusedAt message limits stopped path
  pub slot : Option SlotLines
  pub lines : AreLinesIf message offset table limits path stopped slot
  pub is : text ≡ refused_lines (head message index offset) stopped slot

-- ---- examples: the second row of three, which holds a slot and begins at byte 72, and a message without a root

a_row : with_byte ((0 ∷ 1 ∷ 2 ∷ 3 ∷ 4 ∷ 5 ∷ 6 ∷ 7 ∷ 8 ∷ []) ∷ []) 24 1 (holders.Row 1 3 (place 0 5))
    ≡ texts.Row 1 3 72
a_row = refl

no_root : refused_lines (head ([] ∷ []) 1 40)
    (record { fault = faults.NoRoot; place = root; paid = 0; visits = 0 }) None
    ≡ codes "message: 2 at 40\nsegments: 1 of 0 words\nrefused: NoRoot at 0:0, paid 0, visits 0\n"
unfolding digits
no_root = refl
