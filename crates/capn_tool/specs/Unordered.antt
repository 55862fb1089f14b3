-- The end of the program if its words start no run. (Our own.)
use Rattle.std.specs.Prelude.{ℕ, ◌≡◌, ◌≢◌, ◌⊎◌, List, true, false, Result, Ok, Err}
use Rattle.std.specs.Io.KnownBytes.{Appends}
use Rattle.clap.specs.Words.{Text, subcommand_of, takes}
use Rattle.clap.specs.declared.error.ErrorKind.{ErrorKind}
use Rattle.clap.specs.declared.error.ErrorKind.TheVariants as kinds
use Rattle.capn_words.specs.Watched.{HasBegun}
use Rattle.capn_serve.specs.Line.{WritesLine}
use Rattle.capn_commands.specs.ExitStatus.{status_of}
use Rattle.capn_commands.specs.FaultText.{ReportsEnding, fault_line}
use Rattle.capn_commands.specs.declared.fault.ToolFault.{ToolFault}
use Rattle.capn_commands.specs.declared.fault.ToolFault.TheVariants as faults
use Rattle.capn_args.specs.CommandLine.{program_line}
use Rattle.capn_tool.specs.Course.{Course, IsUntouched}
use Rattle.capn_args.specs.Meaning.{MeansInvocation}
use Rattle.capn_args.specs.Usage.{IsHelp, IsReason, version_line}
use Rattle.capn_args.specs.declared.invocation.Invocation.{Invocation}

-- After `Ok` the help text was written, and the output has not failed. After `Io` a prefix of the help text was
-- written, and the output has failed. After `Memory` nothing was written.
abbrev pub ShowsHelp : Course → Result (Unit {0}) ToolFault → Type 0
ShowsHelp output (Ok u) =
    (text : List ℕ) × IsHelp text × Appends output.before output.after text × (output.failed ≡ false)
ShowsHelp output (Err faults.Memory) = IsUntouched output
ShowsHelp output (Err faults.Io) =
    (text : List ℕ) × IsHelp text × HasBegun output.before output.after text × (output.failed ≡ true)
ShowsHelp output (Err faults.InputTooLong) = ⊥
ShowsHelp output (Err (faults.NotWhole n)) = ⊥
ShowsHelp output (Err (faults.Refused refusal)) = ⊥

-- The words ask for help. Help was shown with the result `outcome`, which decides what was written to `errors`, and the
-- exit status.
pub record EndsHelp (output errors : Course) (status : ℕ) : Type 0 where
  pub outcome : Result (Unit {0}) ToolFault
  pub shown : ShowsHelp output outcome
  pub told : ReportsEnding outcome errors.before errors.after errors.failed
  pub is : status ≡ status_of outcome

-- After `Ok` the version line was written, and the output has not failed. After `Io` a prefix of the version line was
-- written, and the output has failed.
abbrev pub ShowsVersion : Course → Result (Unit {0}) ToolFault → Type 0
ShowsVersion output (Ok u) = Appends output.before output.after version_line × (output.failed ≡ false)
ShowsVersion output (Err faults.Memory) = ⊥
ShowsVersion output (Err faults.Io) = HasBegun output.before output.after version_line × (output.failed ≡ true)
ShowsVersion output (Err faults.InputTooLong) = ⊥
ShowsVersion output (Err (faults.NotWhole n)) = ⊥
ShowsVersion output (Err (faults.Refused refusal)) = ⊥

-- The words ask for the version. The version was shown with the result `outcome`, which decides what was written to
-- `errors`, and the exit status.
pub record EndsVersion (output errors : Course) (status : ℕ) : Type 0 where
  pub outcome : Result (Unit {0}) ToolFault
  pub shown : ShowsVersion output outcome
  pub told : ReportsEnding outcome errors.before errors.after errors.failed
  pub is : status ≡ status_of outcome

-- A text was written to `errors`, or the error line of `Memory` if there was no memory for the text. If `errors` has
-- failed, a prefix of the text or of the line was written.
abbrev pub WritesText : Course → Type 0
WritesText errors = ((text : List ℕ) × WritesLine text errors.before errors.after errors.failed)
    ⊎ WritesLine (fault_line faults.Memory) errors.before errors.after errors.failed

-- The program has ended for the reason `kind`, because its words start no run. `kind` decides what was written to
-- `output` and `errors`, and the exit status.
pub record EndsUnordered (kind : ErrorKind) (output errors : Course) (status : ℕ) : Type 0 where
  pub memory : kind ≡ kinds.OutOfMemory
      → IsUntouched output × ReportsEnding (Err faults.Memory) errors.before errors.after errors.failed × (status ≡ 3)
  pub help : kind ≡ kinds.DisplayHelp → EndsHelp output errors status
  pub version : kind ≡ kinds.DisplayVersion → EndsVersion output errors status
  pub mistake : kind ≢ kinds.OutOfMemory → kind ≢ kinds.DisplayHelp → kind ≢ kinds.DisplayVersion
      → IsUntouched output × WritesText errors × (status ≡ 2)

-- The words start no run, for a reason of the kind `kind`. If the words are accepted and mean an invocation, the reason
-- is that memory was refused. Nothing was read.
pub record Unordered (words : List Text) (input output errors : Course) (status : ℕ) : Type 0 where
  pub kind : ErrorKind
  pub why : IsReason words kind
  pub only : takes program_line words ≡ true → (invocation : Invocation)
      → MeansInvocation (subcommand_of program_line words) invocation → kind ≡ kinds.OutOfMemory
  pub unread : IsUntouched input
  pub ended : EndsUnordered kind output errors status
