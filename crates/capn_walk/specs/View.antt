-- The view of a message: the target that a step found, and the depth limit below that target.
use Rattle.std.specs.Prelude.{ℕ, ◌+◌, ◌*◌, ◌/◌, ◌%◌, ◌^◌, ◌==◌, nat_lt, List, [], length, slice_index, Result, Ok, Err}
use Rattle.std.specs.Prelude.{Option, Some, None, if◌then◌else◌, ⊤}
use Rattle.capn_words.specs.Message.{segment_at}
use Rattle.capn_words.specs.declared.space.Place.{Place}
use Rattle.capn_words.specs.declared.pointer.Width.{Width}
use Rattle.capn_words.specs.declared.pointer.Width.TheVariants.{W0, W1, W8, W16, W32, W64, Link, Rows}
use Rattle.capn_value.specs.NumberWidth as widths
use Rattle.capn_value.specs.NumberWidth.{bit, byte, pair, quad}
use Rattle.capn_target.specs.declared.target.Target.{Target}
use Rattle.capn_target.specs.declared.target.Target.TheVariants as targets
use Rattle.capn_target.specs.declared.target.Shape.TheVariants as shapes
use Rattle.capn_target.specs.declared.target.Fault.{Fault}
use Rattle.capn_target.specs.declared.target.Fault.TheVariants as faults
use Rattle.capn_walk.specs.declared.kind.Kind.{Kind}
use Rattle.capn_walk.specs.declared.kind.Kind.TheVariants as kinds
use Rattle.capn_target.specs.Target.{target}
use Rattle.capn_walk.specs.Visits.{price, slots}
use Rattle.capn_walk.specs.Accepted.{root, may_be_root}
use Rattle.capn_walk.specs.ValueAt.{element, words_from}

-- a message, the target that a step found, and the number of levels of objects that the limits allow below that target
pub record Seen : Type 0 where
  pub message : List (List ℕ)
  pub found : Target
  pub depth : ℕ

-- ---- steps

-- the price of a step to a target, which is 0 if the target has no content
abbrev pub toll : ℕ → Target → ℕ
toll base (targets.Content s start shape pads) = price base shape + pads
toll base _ = 0

-- the result of a step to a slot with the given target, if `depth` levels of objects and a price of `budget` words are
-- allowed
abbrev pub stepped : ℕ → ℕ → ℕ → Result Target Fault → Result Target Fault
stepped base depth budget (Ok (targets.Content s start shape pads)) =
    if depth == 0 then Err faults.TooDeep
    else if nat_lt budget (price base shape + pads) then Err faults.OverBudget
    else Ok (targets.Content s start shape pads)
stepped base depth budget found = found

-- the result of a step is content
abbrev pub IsEntered : Result Target Fault → Type 0
IsEntered (Ok (targets.Content s start shape pads)) = ⊤
IsEntered _ = ⊥

-- the target or the fault of the root pointer, or `RootKind` if the root may not have that target
abbrev pub rooted : Result Target Fault → Result Target Fault
rooted (Ok found) = if may_be_root found then Ok found else Err faults.RootKind
rooted (Err e) = Err e

-- the result of a step to the root of `message`, if the limits allow `depth` levels of objects and a price of `budget`
-- words
abbrev pub stepped_to_root : List (List ℕ) → ℕ → ℕ → ℕ → Result Target Fault
stepped_to_root message base depth budget =
    if length (segment_at message 0) == 0 then Err faults.NoRoot else stepped base depth budget
    (rooted (target message root))

-- ---- what a view returns

-- the kind of a list, by the width of its elements
abbrev pub kind_of_list : Width → Kind
kind_of_list W0 = kinds.Voids
kind_of_list W1 = kinds.Bits
kind_of_list W8 = kinds.Bytes
kind_of_list W16 = kinds.Pairs
kind_of_list W32 = kinds.Quads
kind_of_list W64 = kinds.Octs
kind_of_list Link = kinds.Links
kind_of_list Rows = kinds.Rows

-- the kind of the target of a pointer
abbrev pub kind_of : Target → Kind
kind_of targets.Nil = kinds.Nil
kind_of (targets.Cap k) = kinds.Cap
kind_of (targets.Content s start (shapes.Node a b) pads) = kinds.Node
kind_of (targets.Content s start (shapes.Many width n) pads) = kind_of_list width
kind_of (targets.Content s start (shapes.Rows n a b span) pads) = kinds.Rows

-- the number of elements if the target is a list, else 0
abbrev pub len_of : Target → ℕ
len_of (targets.Content s start (shapes.Many width n) pads) = n
len_of (targets.Content s start (shapes.Rows n a b span) pads) = n
len_of _ = 0

-- the number of data words if the target is a struct, else 0
abbrev pub words_in : Target → ℕ
words_in (targets.Content s start (shapes.Node a b) pads) = a
words_in _ = 0

-- the number of slots if the target is a struct, else 0
abbrev pub slots_in : Target → ℕ
slots_in (targets.Content s start (shapes.Node a b) pads) = b
slots_in _ = 0

-- the index of the capability if the target is a capability, else `None`
abbrev pub cap_in : Target → Option ℕ
cap_in (targets.Cap k) = Some k
cap_in _ = None

-- the number of elements if the target is a list of pointers, else 0
abbrev pub links_in : Target → ℕ
links_in (targets.Content s start (shapes.Many Link n) pads) = n
links_in _ = 0

-- the number of slots to which a step can lead: the slots of a struct, or the elements of a list of pointers
abbrev pub steps_in : Target → ℕ
steps_in t = slots_in t + links_in t

-- the place of slot `i` of a struct, or of element `i` of a list of pointers
abbrev pub step_place : Target → ℕ → Place
step_place (targets.Content s start (shapes.Node a b) pads) i = record { segment = s; word = start + a + i }
step_place (targets.Content s start shape pads) i = record { segment = s; word = start + i }
step_place _ i = root

-- the words from the start of the target's content up to the end of the segment, or no words if the target has no
-- content
abbrev pub content_of : List (List ℕ) → Target → List ℕ
content_of message (targets.Content s start shape pads) = words_from message s start
content_of message _ = []

-- element `i` of a list of elements of the given width, whose content begins with the words `ws`
abbrev pub number_in : Width → List ℕ → ℕ → ℕ
number_in W1 ws i = element 64 1 ws i
number_in W8 ws i = element 8 8 ws i
number_in W16 ws i = element 4 16 ws i
number_in W32 ws i = element 2 32 ws i
number_in _ ws i = slice_index ws i

-- the number of elements of the width in a word: 64, 8, 4 or 2, and 1 for any other width
abbrev pub per_word : Width → ℕ
per_word W1 = widths.per_word bit
per_word W8 = widths.per_word byte
per_word W16 = widths.per_word pair
per_word W32 = widths.per_word quad
per_word _ = 1

-- element `place` of the word `w`, which has elements of the given width. Elements are counted from the least
-- significant bits.
abbrev pub digit : Width → ℕ → ℕ → ℕ
digit W1 w place = w / (2 ^ 1) ^ place % 2 ^ 1
digit W8 w place = w / (2 ^ 8) ^ place % 2 ^ 8
digit W16 w place = w / (2 ^ 16) ^ place % 2 ^ 16
digit W32 w place = w / (2 ^ 32) ^ place % 2 ^ 32
digit _ w place = w

-- number `i` of a target that is a list of numbers
abbrev pub number_of : List (List ℕ) → Target → ℕ → ℕ
number_of message (targets.Content s start (shapes.Many width n) pads) i =
    number_in width (words_from message s start) i
number_of message _ i = 0

-- the number of elements if the target is a list of bits, bytes, pairs, quads or octs, else 0
abbrev pub numbers_in : Target → ℕ
numbers_in (targets.Content s start (shapes.Many W0 n) pads) = 0
numbers_in (targets.Content s start (shapes.Many Link n) pads) = 0
numbers_in (targets.Content s start (shapes.Many Rows n) pads) = 0
numbers_in (targets.Content s start (shapes.Many width n) pads) = n
numbers_in _ = 0

-- the number of rows if the target is a composite list, else 0
abbrev pub rows_in : Target → ℕ
rows_in (targets.Content s start (shapes.Rows n a b span) pads) = n
rows_in _ = 0

-- row `i` of a composite list, as the target of a pointer to a struct
abbrev pub row_of : Target → ℕ → Target
row_of (targets.Content s start (shapes.Rows n a b span) pads) i =
    targets.Content s (start + 1 + i * (a + b)) (shapes.Node a b) 0
row_of found i = found

-- the places of the slots of a target's content, or no places if the target has no content
abbrev pub slots_below : Target → List Place
slots_below (targets.Content s start shape pads) = slots s start shape
slots_below _ = []
