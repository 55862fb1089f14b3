-- The effect of a run over an input: the output that was written, and the end of the run. (Our own.)
use Rattle.std.specs.Prelude.{◌≡◌, ◌⊎◌, ◌↔◌, ℕ, List, [], Bool, true, Option, IfSome, Result, Err, ⊤}
use Rattle.std.specs.Io.KnownBytes.{Consumes, Appends, IsAtEnd}
use Rattle.capn_pack.specs.PackedPieces.{Splits}
use Rattle.capn_stream.specs.StreamPieces.{IsUnfinished}
use Rattle.capn_walk.specs.Limits.{Bounds}
use Rattle.capn_serve.specs.StreamRun.{IsAhead, TakesBytes}
use Rattle.capn_serve.specs.declared.fault.RunFault.{RunFault}
use Rattle.capn_serve.specs.declared.fault.RunFault.TheVariants as run_faults
use Rattle.capn_commands.specs.Streams.{AreParts, Part, texts_of}
use Rattle.capn_commands.specs.Text.{IsDue, PlanEndsAs, PlanBegins, taken_of, has_more}
use Rattle.capn_commands.specs.declared.plan.MessageText.{MessageText}
use Rattle.capn_commands.specs.declared.plan.Plan.{Plan}
use Rattle.capn_commands.specs.declared.plan.Plan.TheVariants as plans
use Rattle.capn_commands.specs.declared.command.Command.{Command}
use Rattle.capn_commands.specs.Plan.{plan_of}
use Rattle.capn_commands.specs.declared.fault.ToolFault.{ToolFault}
use Rattle.capn_commands.specs.declared.fault.ToolFault.TheVariants as faults

-- The fault of a run, without the position of a refused message.
abbrev pub unplaced : RunFault → ToolFault
unplaced run_faults.Memory = faults.Memory
unplaced run_faults.Io = faults.Io
unplaced run_faults.InputTooLong = faults.InputTooLong
unplaced (run_faults.Refused at refusal) = faults.Refused refusal

-- The reader returned `bytes`, and all output `text` of `plan` for these bytes was written. `a` and `b` are the reader
-- before and after, and `c` and `d` the writer.
abbrev pub HasKeptUp : Plan → Option (List ℕ) → Option (List ℕ) → Option (List ℕ) → Option (List ℕ) → Type 0
HasKeptUp plan a b c d =
    (bytes : List ℕ) × (text : List ℕ) × (due : Result (Unit {0}) ToolFault) × Consumes a b bytes
    × IsDue plan (taken_of bytes) (has_more bytes) text due
    × Appends c d text

-- For `Each` and `Packed`, `HasKeptUp` holds. For `Whole`, nothing was written.
abbrev pub PlanKeepsUp : Plan → Option (List ℕ) → Option (List ℕ) → Option (List ℕ) → Option (List ℕ) → Type 0
PlanKeepsUp (plans.Whole whole) a b c d = Appends c d []
PlanKeepsUp (plans.Each piece limits) a b c d = HasKeptUp (plans.Each piece limits) a b c d
PlanKeepsUp (plans.Packed piece limits) a b c d = HasKeptUp (plans.Packed piece limits) a b c d

-- `PlanKeepsUp` holds for the plan of `command`.
abbrev pub KeepsUp : Command → Option (List ℕ) → Option (List ℕ) → Option (List ℕ) → Option (List ℕ) → Type 0
KeepsUp command a b c d = PlanKeepsUp (plan_of command) a b c d

-- `parts` are the complete messages at the front of `bytes`, and their texts were written. The bytes after these
-- messages do not begin with a complete frame. `c` and `d` are the writer before and after.
abbrev pub HasWrittenAll : MessageText → Bounds → List ℕ → Option (List ℕ) → Option (List ℕ) → Type 0
HasWrittenAll piece limits bytes c d = (parts : List Part) × (rest : List ℕ)
    × AreParts piece limits bytes parts rest × IsUnfinished rest limits.message_words × Appends c d (texts_of parts)

-- `HasWrittenAll` holds for the `words` that the complete groups of `bytes` unpack to.
abbrev pub HasWrittenAllPacked : MessageText → Bounds → List ℕ → Option (List ℕ) → Option (List ℕ) → Type 0
HasWrittenAllPacked piece limits bytes c d = (words group : List ℕ) × (at : ℕ) × Splits bytes group [] words at
    × HasWrittenAll piece limits words c d

-- The reader returned `bytes`. Before the last chunk of `bytes` was read, `Written` held for the bytes before that
-- chunk (`IsAhead`). `a` and `b` are the reader before and after, and `c` and `d` the writer.
abbrev pub StaysAhead : (List ℕ → Option (List ℕ) → Option (List ℕ) → Type 0) → Option (List ℕ) → Option (List ℕ)
    → Option (List ℕ) → Option (List ℕ) → Type 0
StaysAhead Written a b c d = (bytes : List ℕ) × Consumes a b bytes × IsAhead Written bytes c d

-- For `Each` and `Packed`, `StaysAhead` holds: before the last chunk was read, the texts of all messages that were
-- complete by then had been written. For `Whole`, nothing is stated.
abbrev pub PlanIsAhead : Plan → Option (List ℕ) → Option (List ℕ) → Option (List ℕ) → Option (List ℕ) → Type 0
PlanIsAhead (plans.Whole whole) a b c d = ⊤
PlanIsAhead (plans.Each piece limits) a b c d = StaysAhead (HasWrittenAll piece limits) a b c d
PlanIsAhead (plans.Packed piece limits) a b c d = StaysAhead (HasWrittenAllPacked piece limits) a b c d

-- `PlanIsAhead` holds for the plan of `command`.
abbrev pub StaysAheadAs : Command → Option (List ℕ) → Option (List ℕ) → Option (List ℕ) → Option (List ℕ) → Type 0
StaysAheadAs command a b c d = PlanIsAhead (plan_of command) a b c d

-- The reader returned at least one byte. For `Whole`, the reader may be at its end instead. `a` and `b` are the reader
-- before and after.
abbrev pub PlanMayNeedMemory : Plan → Option (List ℕ) → Option (List ℕ) → Type 0
PlanMayNeedMemory (plans.Whole whole) a b = TakesBytes a b ⊎ IsAtEnd b
PlanMayNeedMemory (plans.Each piece limits) a b = TakesBytes a b
PlanMayNeedMemory (plans.Packed piece limits) a b = TakesBytes a b

-- `PlanMayNeedMemory` holds for the plan of `command`.
abbrev pub MayNeedMemory : Command → Option (List ℕ) → Option (List ℕ) → Type 0
MayNeedMemory command a b = PlanMayNeedMemory (plan_of command) a b

-- A run of `plan` has the result `r`. Before and after the run, the bytes left in the reader are `a` and `b`, and the
-- contents of the writer are `c` and `d`.
pub record Runs (plan : Plan) (a b c d : Option (List ℕ)) (reader_failed writer_failed : Bool)
    (r : Result (Unit {0}) ToolFault) : Type 0 where
  pub exact : IfSome a (PlanEndsAs plan c d r)
  pub io : (r ≡ Err faults.Io) ↔ ((reader_failed ≡ true) ⊎ (writer_failed ≡ true))
  pub begun : PlanBegins plan a b c d
  pub heard : reader_failed ≡ true → PlanKeepsUp plan a b c d
  pub ahead : PlanIsAhead plan a b c d
  pub memory : r ≡ Err faults.Memory → PlanMayNeedMemory plan a b
