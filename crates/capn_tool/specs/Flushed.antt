-- A run and the flush of its output. (Our own.)
use Rattle.std.specs.Prelude.{ℕ, ◌≡◌, ◌↔◌, ◌⊎◌, List, Bool, true, false, Option, IfSome, IsErrOf, Result, Ok, Err}
use Rattle.std.specs.Io.KnownBytes.{Keeps}
use Rattle.capn_serve.specs.Ending.{WritesEnding, status_of_ending}
use Rattle.capn_commands.specs.CommandRun.{KeepsUp, MayNeedMemory, StaysAheadAs}
use Rattle.capn_commands.specs.Text.{Begins, EndsAs, EndsBy, IsText}
use Rattle.capn_commands.specs.declared.command.Command.{Command}
use Rattle.capn_commands.specs.declared.fault.ToolFault.{ToolFault}
use Rattle.capn_commands.specs.declared.fault.ToolFault.TheVariants as faults
use Rattle.capn_commands.specs.Flow.{Runs}
use Rattle.capn_commands.specs.PackRun.{packing}
use Rattle.capn_commands.specs.UnpackRun.{unpacking}
use Rattle.capn_commands.specs.declared.flow_fault.FlowFault.{FlowFault}
use Rattle.capn_canon.specs.declared.form.Form.{Form}
use Rattle.capn_make.specs.MadeTexts.{MadeTexts}
use Rattle.capn_make.specs.MakeRun.{Made}
use Rattle.capn_make.specs.declared.fault.MakeFault.{MakeFault}
use Rattle.capn_tool.specs.Course.{Course}
use Rattle.capn_args.specs.declared.invocation.Flow.{Flow}
use Rattle.capn_args.specs.declared.invocation.Flow.TheVariants as flows

-- `result` is the outcome of a run after the flush of its output. If the run ended with `Ok` and the flush failed,
-- `result` is the fault `io`. Otherwise `result` is the outcome before the flush.
abbrev pub EndsFlushed : {F : Type 0} → F → Result (Unit {0}) F → Bool → Bool → Result (Unit {0}) F → Type 0
EndsFlushed io (Ok u) old new result = ((result ≡ Ok u) × (new ≡ old)) ⊎ ((result ≡ Err io) × (new ≡ true))
EndsFlushed io (Err fault) old new result = (result ≡ Err fault) × ((new ≡ old) ⊎ (new ≡ true))

-- Let `text` and `due` be the text and the ending of `command` for `input`. Then `text` was written and `outcome` is
-- `due`, or `outcome` is `Memory` or `Io`.
abbrev pub EndsByText : Command → Option (List ℕ) → Option (List ℕ) → Result (Unit {0}) ToolFault → List ℕ → Type 0
EndsByText command c d outcome input =
    (text : List ℕ) (due : Result (Unit {0}) ToolFault) → IsText command input text due → EndsBy text due c d outcome

-- `command` was carried out with the result `run`, and the flush of the output gave `outcome`. `failed` says whether
-- the output had failed before the flush. `outcome` is `Io` exactly if the input or the output failed in the run, or if
-- `run` is `Ok` and the flush failed.
pub record CarriesOut (command : Command) (input output : Course) (outcome : Result (Unit {0}) ToolFault) : Type 0 where
  pub run : Result (Unit {0}) ToolFault
  pub failed : Bool
  pub ran : IfSome input.before (EndsAs command output.before output.after run)
  pub stopped : IsErrOf run faults.Io ↔ ((input.failed ≡ true) ⊎ (failed ≡ true))
  pub flushed : EndsFlushed faults.Io run failed output.failed outcome
  pub exact : IfSome input.before (EndsAs command output.before output.after outcome)
  pub only : IfSome input.before (EndsByText command output.before output.after outcome)
  pub io : IsErrOf outcome faults.Io
      ↔ (((input.failed ≡ true) ⊎ (failed ≡ true)) ⊎ ((run ≡ Ok tt) × (output.failed ≡ true)))
  pub begun : Begins command input.before input.after output.before output.after
  pub heard : input.failed ≡ true → KeepsUp command input.before input.after output.before output.after
  pub ahead : StaysAheadAs command input.before input.after output.before output.after
  pub memory : IsErrOf outcome faults.Memory → MayNeedMemory command input.before input.after

-- The type of a statement about a run. The arguments are the reader and the writer, each before and after the run,
-- whether each has failed, and the result.
abbrev pub RunOver : Type 0 → Type 1
RunOver F = Option (List ℕ) → Option (List ℕ) → Option (List ℕ) → Option (List ℕ) → Bool → Bool
    → Result (Unit {0}) F → Type 0

-- A run for which `Runs` holds had the result `run`, and the flush of its output gave `outcome`. `written` is the
-- output before the flush. `failed` says whether the output had failed before the flush.
pub record RunsFlushed {F : Type 0} (io : F) (Runs : RunOver F) (input output : Course)
    (outcome : Result (Unit {0}) F) : Type 0 where
  pub run : Result (Unit {0}) F
  pub written : Option (List ℕ)
  pub failed : Bool
  pub ran : Runs input.before input.after output.before written input.failed failed run
  pub kept : Keeps written output.after
  pub flushed : EndsFlushed io run failed output.failed outcome

-- After a run with the result `run`, the output was flushed, and the program ended with the exit status `status`.
-- `outcome` is the outcome after the flush, and decides what was written to `errors`. `failed` says whether the output
-- had failed before the flush.
pub record EndsRun {F : Type 0} (text : F → List ℕ) (exit : F → ℕ) (io : F) (run : Result (Unit {0}) F) (failed : Bool)
    (flush errors : Course) (status : ℕ) : Type 0 where
  pub outcome : Result (Unit {0}) F
  pub kept : Keeps flush.before flush.after
  pub flushed : EndsFlushed io run failed flush.failed outcome
  pub told : WritesEnding text outcome errors.before errors.after errors.failed
  pub is : status ≡ status_of_ending exit outcome

-- Messages in `form` were made from texts. The first argument says whether lists of bytes may stand between quotes.
abbrev pub MadeBy : Bool → Form → RunOver MakeFault
MadeBy true form = MadeTexts form
MadeBy false form = Made form

-- A stream was packed or unpacked, as the first argument says.
abbrev pub Flowed : Flow → RunOver FlowFault
Flowed flows.Pack = Runs packing
Flowed flows.Unpack = Runs unpacking
