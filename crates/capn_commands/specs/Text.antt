-- The text that a run writes for its input, and the end of the run. (Our own.)
use Rattle.std.specs.Prelude.{◌≡◌, ◌⊎◌, ℕ, ◌+◌, ◌≤◌, nat_lt, List, [], length, take, Bool, true, false, Option, Result}
use Rattle.std.specs.Prelude.{Ok, Err}
use Rattle.std.specs.Io.KnownBytes.{Consumes, Appends}
use Rattle.capn_commands.specs.Limits.{most_input}
use Rattle.capn_commands.specs.Plan.{plan_of}
use Rattle.capn_commands.specs.WholeInput.{Makes, MakesNothing}
use Rattle.capn_commands.specs.Streams.{Part, AreParts, texts_of, IsDueEach, IsDuePacked, behind_stream}
use Rattle.capn_pack.specs.PackedPieces as packs
use Rattle.capn_commands.specs.declared.command.Command.{Command}
use Rattle.capn_commands.specs.declared.plan.Whole.{Whole}
use Rattle.capn_commands.specs.declared.plan.Plan.{Plan}
use Rattle.capn_commands.specs.declared.plan.Plan.TheVariants as plans
use Rattle.capn_commands.specs.declared.fault.ToolFault.{ToolFault}
use Rattle.capn_commands.specs.declared.fault.ToolFault.TheVariants as faults

-- The bytes of `input` that a run takes, which are the first `most_input` bytes.
abbrev pub taken_of : List ℕ → List ℕ
taken_of input = take most_input input

-- True if `input` has more than `most_input` bytes.
abbrev pub has_more : List ℕ → Bool
has_more input = nat_lt most_input (length input)

-- A run that reads its complete input first writes `text` and has the given result. The result is `InputTooLong` if the
-- input has more bytes than a run takes. Otherwise `makes` relates `bytes` to `text`, or `fails` relates `bytes` to the
-- fault.
abbrev pub IsDueOf : (List ℕ → List ℕ → Type 0) → (List ℕ → ToolFault → Type 0) → List ℕ → Bool → List ℕ
    → Result (Unit {0}) ToolFault → Type 0
IsDueOf makes fails bytes true text ending = (text ≡ []) × (ending ≡ Err faults.InputTooLong)
IsDueOf makes fails bytes false text (Ok u) = makes bytes text
IsDueOf makes fails bytes false text (Err fault) = (text ≡ []) × fails bytes fault

-- A run that has the output `whole` writes `text` for `bytes` and has the result `ending`.
abbrev pub IsDueWhole : Whole → List ℕ → Bool → List ℕ → Result (Unit {0}) ToolFault → Type 0
IsDueWhole whole bytes is_longer text ending = IsDueOf (Makes whole) (MakesNothing whole) bytes is_longer text ending

-- A run of `plan` writes `text` for `bytes`, the bytes that it takes, and has the result `ending`.
abbrev pub IsDue : Plan → List ℕ → Bool → List ℕ → Result (Unit {0}) ToolFault → Type 0
IsDue (plans.Whole whole) bytes is_longer text ending = IsDueWhole whole bytes is_longer text ending
IsDue (plans.Each piece limits) bytes is_longer text ending =
    IsDueEach piece limits bytes (behind_stream is_longer) text ending
IsDue (plans.Packed piece limits) bytes is_longer text ending = IsDuePacked piece limits bytes is_longer text ending

-- A run of `command` writes `text` for `input` and has the result `ending`.
abbrev pub IsText : Command → List ℕ → List ℕ → Result (Unit {0}) ToolFault → Type 0
IsText command input text ending = IsDue (plan_of command) (taken_of input) (has_more input) text ending

-- `ending` is `Memory` or `Io`, or `IsDue` holds for `plan`, `bytes`, `ending` and some `text`. In the last case `text`
-- was written. `old` and `new` are the writer before and after.
abbrev pub HasEnded : Plan → List ℕ → Bool → Option (List ℕ) → Option (List ℕ) → Result (Unit {0}) ToolFault → Type 0
HasEnded plan bytes is_longer old new ending =
    (ending ≡ Err faults.Memory)
    ⊎ ((ending ≡ Err faults.Io) ⊎ ((text : List ℕ) × IsDue plan bytes is_longer text ending × Appends old new text))

-- `HasEnded` holds for `plan`, for `ending` and for the bytes of `input` that a run takes.
abbrev pub PlanEndsAs : Plan → Option (List ℕ) → Option (List ℕ) → Result (Unit {0}) ToolFault → List ℕ → Type 0
PlanEndsAs plan old new ending input = HasEnded plan (taken_of input) (has_more input) old new ending

-- `PlanEndsAs` holds for the plan of `command`, for `ending` and for `input`.
abbrev pub EndsAs : Command → Option (List ℕ) → Option (List ℕ) → Result (Unit {0}) ToolFault → List ℕ → Type 0
EndsAs command old new ending input = PlanEndsAs (plan_of command) old new ending input

-- `ending` is `Memory`, `Io` or `due`. If `ending` is neither `Memory` nor `Io`, `text` was written. `old` and `new`
-- are the writer before and after.
abbrev pub EndsBy : List ℕ → Result (Unit {0}) ToolFault → Option (List ℕ) → Option (List ℕ)
    → Result (Unit {0}) ToolFault → Type 0
EndsBy text due old new ending =
    (ending ≡ Err faults.Memory) ⊎ ((ending ≡ Err faults.Io) ⊎ ((ending ≡ due) × Appends old new text))

-- `text` is an output that a run of `plan` may begin to write for `bytes`. For `Whole`, `text` is empty or the complete
-- output. For a stream, `text` is the texts of any number of complete messages at the front of the stream.
abbrev pub IsFront : Plan → List ℕ → Bool → List ℕ → Type 0
IsFront (plans.Whole whole) bytes is_longer text = (text ≡ []) ⊎ IsDueWhole whole bytes is_longer text (Ok tt)
IsFront (plans.Each piece limits) bytes is_longer text = (parts : List Part) × (rest : List ℕ)
    × AreParts piece limits bytes parts rest × (text ≡ texts_of parts)
IsFront (plans.Packed piece limits) bytes is_longer text =
    (words : List ℕ) × (parts : List Part) × (rest : List ℕ) × packs.Begins bytes [] words
    × AreParts piece limits words parts rest × (text ≡ texts_of parts)

-- A prefix of some `text` was written, and `IsFront` holds for `text`. The writer was `old`, and is now `new`.
abbrev pub HasWritten : Plan → List ℕ → Bool → Option (List ℕ) → Option (List ℕ) → Type 0
HasWritten plan bytes is_longer old new =
    (text : List ℕ) × (count : ℕ) × IsFront plan bytes is_longer text × Appends old new (take count text)

-- A reader returned `bytes`, at most 2^32 + 1 of them, and `HasWritten` holds for the bytes that a run takes.
pub record Begun (plan : Plan) (old_reader new_reader old_writer new_writer : Option (List ℕ)) (bytes : List ℕ) : Type 0
  where
    pub read : Consumes old_reader new_reader bytes
    pub bounded : length bytes ≤ most_input + 1
    pub written : HasWritten plan (taken_of bytes) (has_more bytes) old_writer new_writer

-- A run of `plan` has read some `bytes`, and has written a prefix of an output for these bytes (`Begun`).
abbrev pub PlanBegins : Plan → Option (List ℕ) → Option (List ℕ) → Option (List ℕ) → Option (List ℕ) → Type 0
PlanBegins plan a b c d = (bytes : List ℕ) × Begun plan a b c d bytes

-- `PlanBegins` holds for the plan of `command`.
abbrev pub Begins : Command → Option (List ℕ) → Option (List ℕ) → Option (List ℕ) → Option (List ℕ) → Type 0
Begins command a b c d = PlanBegins (plan_of command) a b c d
