-- The parts of a message that cover its words: the message itself, landing pads and objects. (Our own.)
use Rattle.std.specs.Prelude.{ℕ, ◌==◌, Bool, true, false, not, ◌&&◌, List}
use Rattle.std.specs.Prelude.{Result, Ok, Option, Some, None, if◌then◌else◌}
use Rattle.capn_words.specs.Pointers.{width_code}
use Rattle.capn_words.specs.declared.space.Place.{Place}
use Rattle.capn_words.specs.declared.pointer.Pointer.{Pointer}
use Rattle.capn_words.specs.declared.pointer.Pointer.TheVariants.{Far}
use Rattle.capn_words.specs.declared.pointer.Width.{Width}
use Rattle.capn_target.specs.declared.target.Target.{Target}
use Rattle.capn_target.specs.declared.target.Target.TheVariants as targets
use Rattle.capn_target.specs.declared.target.Shape.{Shape}
use Rattle.capn_target.specs.declared.target.Shape.TheVariants as shapes
use Rattle.capn_target.specs.declared.target.Fault.{Fault}
use Rattle.capn_target.specs.Target.{pointer_in, target}
use Rattle.capn_cover.specs.Numbers.{place_from}
use Rattle.capn_cover.specs.declared.covered.Role.{Role}
use Rattle.capn_cover.specs.declared.covered.Role.TheVariants as roles
use Rattle.capn_cover.specs.declared.part.Part.{Part}
use Rattle.capn_cover.specs.declared.part.Part.TheVariants.{Whole, Pad, Object}

-- the landing pad that a pointer names: its first word, and its number of words
abbrev pub pad_of : Pointer → Part
pad_of (Far double word segment) = Pad segment word (if double then 2 else 1)
pad_of _ = Whole

-- the object to which a slot leads: its first word, and its kind, sizes and counts
abbrev pub object_of : Result Target Fault → Part
object_of (Ok (targets.Content s start shape pads)) = Object s start shape
object_of _ = Whole

module _ (message : List (List ℕ)) where
  -- what covers a word in the given role, by the visit of the slot at a place
  abbrev pub part_at : Option Place → Role → Part
  part_at None role = Whole
  part_at (Some at) roles.Root = Whole
  part_at (Some at) roles.Pad = pad_of (pointer_in message at.segment at.word)
  part_at (Some at) role = object_of (target message at)

  -- what covers a word in the given role, by the visit of the slot with the given number
  abbrev pub part : (slot : ℕ) → Role → Part
  part slot role = part_at (place_from 0 message slot) role

-- the elements of two lists have the same size
abbrev pub same_width : Width → Width → Bool
same_width a b = width_code a == width_code b

-- two objects have the same kind, sizes and counts
abbrev pub same_shape : Shape → Shape → Bool
same_shape (shapes.Node a b) (shapes.Node c d) = (a == c) && (b == d)
same_shape (shapes.Many v n) (shapes.Many w k) = same_width v w && (n == k)
same_shape (shapes.Rows n a b span) (shapes.Rows k c d size) = ((n == k) && (a == c)) && ((b == d) && (span == size))
same_shape _ _ = false

-- both are the message itself, one landing pad or one object
abbrev pub same_part : Part → Part → Bool
same_part Whole Whole = true
same_part (Pad s w n) (Pad t v k) = ((s == t) && (w == v)) && (n == k)
same_part (Object s w x) (Object t v y) = ((s == t) && (w == v)) && same_shape x y
same_part _ _ = false

-- the visits of two slots cover a word in the given roles by two parts that differ
unfoldable pub differs : List (List ℕ) → (slot : ℕ) → Role → (other : ℕ) → Role → Bool
differs message slot role other another = not (same_part (part message slot role) (part message other another))
