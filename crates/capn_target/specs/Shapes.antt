-- The size of an object with a given form, and the condition that an object lies within its message.
use Rattle.std.specs.Prelude.{ℕ, ◌+◌, ◌*◌, ◌<◌, ◌≤◌, List, length, ⊤}
use Rattle.capn_words.specs.Message.{segment_at}
use Rattle.capn_words.specs.declared.space.Place.{Place}
use Rattle.capn_words.specs.declared.pointer.Pointer.{Pointer}
use Rattle.capn_words.specs.declared.pointer.Pointer.TheVariants.{Many}
use Rattle.capn_words.specs.declared.pointer.Width.{Width}
use Rattle.capn_words.specs.declared.pointer.Width.TheVariants.{Link, Rows}
use Rattle.capn_target.specs.declared.target.Target.{Target}
use Rattle.capn_target.specs.declared.target.Target.TheVariants as targets
use Rattle.capn_target.specs.declared.target.Shape.{Shape}
use Rattle.capn_target.specs.declared.target.Shape.TheVariants as shapes
use Rattle.capn_target.specs.Target.{content_words}

-- the number of slots of an object of the given form
abbrev pub slot_count : Shape → ℕ
slot_count (shapes.Node data_words pointers) = pointers
slot_count (shapes.Many Link n) = n
slot_count (shapes.Many width n) = 0
slot_count (shapes.Rows n data_words pointers span) = n * pointers

-- the number of words of an object of the given form
abbrev pub extent : Shape → ℕ
extent (shapes.Node data_words pointers) = data_words + pointers
extent (shapes.Many width n) = content_words width n
extent (shapes.Rows n data_words pointers span) = 1 + span

-- the form is not `Many` with the width `Rows`. If the form is `Rows`, the rows are within the words that the list's
-- pointer gives.
abbrev pub RowsFit : Shape → Type 0
RowsFit (shapes.Rows n data_words pointers span) = n * (data_words + pointers) ≤ span
RowsFit (shapes.Many Rows n) = ⊥
RowsFit _ = ⊤

-- elements of the width are neither pointers nor structs
abbrev pub IsPlain : Width → Type 0
IsPlain Link = ⊥
IsPlain Rows = ⊥
IsPlain _ = ⊤

-- the pointer leads to a list whose elements are neither pointers nor structs
abbrev pub AreNumbers : Pointer → Type 0
AreNumbers (Many o width n) = IsPlain width
AreNumbers _ = ⊥

-- segment `at.segment` exists, and `n` words from `at` on are within the segment
pub record IsContent (message : List (List ℕ)) (at : Place) (n : ℕ) : Type 0 where
  pub exists : at.segment < length message
  pub within : at.word + n ≤ length (segment_at message at.segment)

-- if the target is content, the content lies within its segment of `message`, and `RowsFit` holds of the form
abbrev pub IsInMessage : List (List ℕ) → Target → Type 0
IsInMessage message (targets.Content s start shape pads) =
    IsContent message (record { segment = s; word = start }) (extent shape) × RowsFit shape
IsInMessage message _ = ⊤
