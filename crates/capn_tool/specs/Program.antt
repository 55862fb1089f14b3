-- The program, from the words of its command line to its exit status. (Our own.)
use Rattle.std.specs.Prelude.{ℕ, ◌≡◌, ◌⊎◌, List, Bool, Option, Result}
use Rattle.clap.specs.Words.{Text, subcommand_of}
use Rattle.capn_commands.specs.ExitStatus.{status_of}
use Rattle.capn_commands.specs.FaultText.{ReportsEnding}
use Rattle.capn_commands.specs.declared.fault.ToolFault.TheVariants as faults
use Rattle.capn_archive.specs.ArchiveRun.{Archived}
use Rattle.capn_archive.specs.FilterRun.{Filtered}
use Rattle.capn_archive.specs.UniqRun.{Deduplicated}
use Rattle.capn_archive.specs.declared.fault.ArchiveFault.{ArchiveFault}
use Rattle.capn_archive.specs.declared.fault.ArchiveFault.TheVariants as archive_faults
use Rattle.capn_cmp.specs.FaultText.{cmp_text}
use Rattle.capn_cmp.specs.declared.cmp_order.CmpOrder.{CmpOrder}
use Rattle.capn_cmp.specs.declared.cmp_run.Comparison.{Comparison}
use Rattle.capn_cmp.specs.declared.fault.CmpFault.{CmpFault}
use Rattle.capn_serve.specs.Ending.{WritesEnding}
use Rattle.capn_serve.specs.PickRun.{Picks}
use Rattle.capn_serve.specs.declared.fault.RunFault.TheVariants as run_faults
use Rattle.capn_serve.specs.declared.skip_fault.SkipFault.TheVariants as skip_faults
use Rattle.capn_explain.specs.ExplainRun.{Explained}
use Rattle.capn_explain.specs.RefusedRun.{ExplainedRefused}
use Rattle.capn_commands.specs.declared.flow_fault.FlowFault.TheVariants as flow_faults
use Rattle.capn_make.specs.declared.fault.MakeFault.TheVariants as make_faults
use Rattle.capn_args.specs.CommandLine.{program_line}
use Rattle.capn_tool.specs.AnnotateRun.{MessagesAnnotated}
use Rattle.capn_tool.specs.CmpEnd.{Finds, cmp_status, io}
use Rattle.capn_tool.specs.Course.{Course}
use Rattle.capn_tool.specs.ExitStatus.{archive_status, flow_status, make_status, pick_status, report_status}
use Rattle.capn_tool.specs.FaultText.{WritesArchiveEnding, WritesFlowEnding, WritesMakeEnding, WritesPickEnding}
use Rattle.capn_tool.specs.FaultText.{WritesReportEnding}
use Rattle.capn_tool.specs.Flushed.{CarriesOut, Flowed, MadeBy, RunOver, RunsFlushed}
use Rattle.capn_args.specs.Meaning.{MeansInvocation}
use Rattle.capn_tool.specs.OnlyRun.{OnlyPicked}
use Rattle.capn_tool.specs.PartRun.{PartsShown}
use Rattle.capn_tool.specs.Unordered.{Unordered}
use Rattle.capn_args.specs.declared.invocation.Explanation.TheVariants as explanations
use Rattle.capn_args.specs.declared.invocation.Invocation.{Invocation}
use Rattle.capn_args.specs.declared.invocation.Invocation.TheVariants as invocations

-- The words mean the invocation `name order`, and that invocation was carried out over the input and the output.
-- `WritesEnd` states what was written to `errors` after `outcome`. The exit status is `status_of_end outcome`.
pub record EndsOrder {O F : Type 0} (name : O → Invocation)
    (CarriesOut : O → Course → Course → Result (Unit {0}) F → Type 0)
    (WritesEnd : Result (Unit {0}) F → Option (List ℕ) → Option (List ℕ) → Bool → Type 0)
    (status_of_end : Result (Unit {0}) F → ℕ)
    (words : List Text) (input output errors : Course) (status : ℕ) : Type 0 where
  pub order : O
  pub outcome : Result (Unit {0}) F
  pub means : MeansInvocation (subcommand_of program_line words) (name order)
  pub run : CarriesOut order input output outcome
  pub told : WritesEnd outcome errors.before errors.after errors.failed
  pub is : status ≡ status_of_end outcome

-- The words mean the invocation `name order`. A run for which `Runs order` holds was carried out and its output was
-- flushed. Its outcome decides what was written to `errors`, and the exit status.
abbrev pub EndsRunOrder : {O F : Type 0} → (O → Invocation) → F → (O → RunOver F)
    → (Result (Unit {0}) F → Option (List ℕ) → Option (List ℕ) → Bool → Type 0) → (Result (Unit {0}) F → ℕ)
    → List Text → Course → Course → Course → ℕ → Type 0
EndsRunOrder name io Runs = EndsOrder name (λ order. RunsFlushed io (Runs order))

-- The words mean a command over messages or bytes. The command was carried out, and its outcome decides what was
-- written to `errors`, and the exit status.
abbrev pub EndsMessage : List Text → Course → Course → Course → ℕ → Type 0
EndsMessage = EndsOrder (λ command. invocations.Message command) CarriesOut ReportsEnding status_of

-- The words mean a run that shows messages or values in them. The run was carried out, and its outcome decides what was
-- written to `errors`, and the exit status.
abbrev pub EndsShow : List Text → Course → Course → Course → ℕ → Type 0
EndsShow = EndsRunOrder (λ show. invocations.Show show) faults.Io PartsShown ReportsEnding status_of

-- The words mean a run that explains one message. The run was carried out, and its outcome decides what was written to
-- `errors`, and the exit status.
abbrev pub EndsExplain : List Text → Course → Course → Course → ℕ → Type 0
EndsExplain =
    EndsRunOrder (λ explain. invocations.Explain (explanations.One explain)) run_faults.Io Explained WritesPickEnding
    pick_status

-- The words mean a run that explains every refused message. The run was carried out, and its outcome decides what was
-- written to `errors`, and the exit status.
abbrev pub EndsExplainRefused : List Text → Course → Course → Course → ℕ → Type 0
EndsExplainRefused =
    EndsRunOrder (λ refused. invocations.Explain (explanations.Refused refused)) (skip_faults.Ended run_faults.Io)
    ExplainedRefused WritesReportEnding report_status

-- The words mean a run that annotates messages. The run was carried out, and its outcome decides what was written to
-- `errors`, and the exit status.
abbrev pub EndsAnnotate : List Text → Course → Course → Course → ℕ → Type 0
EndsAnnotate =
    EndsRunOrder (λ annotate. invocations.Annotate annotate) faults.Io MessagesAnnotated ReportsEnding status_of

-- The fault that ends a run over an archive if its output failed.
abbrev pub archive_io : ArchiveFault
archive_io = archive_faults.Ended (skip_faults.Ended run_faults.Io)

-- The words mean a run over an archive. The run was carried out, and its outcome decides what was written to `errors`,
-- and the exit status.
abbrev pub EndsArchive : List Text → Course → Course → Course → ℕ → Type 0
EndsArchive =
    EndsRunOrder (λ archive. invocations.Archive archive) archive_io Archived WritesArchiveEnding archive_status

-- The words mean a run that omits or counts duplicates. The run was carried out, and its outcome decides what was
-- written to `errors`, and the exit status.
abbrev pub EndsUniq : List Text → Course → Course → Course → ℕ → Type 0
EndsUniq =
    EndsRunOrder (λ uniq. invocations.Uniq uniq) archive_io Deduplicated WritesArchiveEnding archive_status

-- The words mean a run that writes accepted messages. The run was carried out, and its outcome decides what was written
-- to `errors`, and the exit status.
abbrev pub EndsFilter : List Text → Course → Course → Course → ℕ → Type 0
EndsFilter =
    EndsRunOrder (λ filter. invocations.Filter filter) archive_io Filtered WritesArchiveEnding archive_status

-- The words mean a run that compares messages. The run had the result `found`, and the flush of the output gave
-- `outcome`. `outcome` decides what was written to `errors`, and `found` and `outcome` decide the exit status.
pub record EndsCmp (words : List Text) (input output errors : Course) (status : ℕ) : Type 0 where
  pub order : CmpOrder
  pub found : Result Comparison CmpFault
  pub outcome : Result (Unit {0}) CmpFault
  pub means : MeansInvocation (subcommand_of program_line words) (invocations.Cmp order)
  pub run : RunsFlushed io (Finds order found) input output outcome
  pub told : WritesEnding cmp_text outcome errors.before errors.after errors.failed
  pub is : status ≡ cmp_status found outcome

-- The words mean a run that picks messages by a range of numbers. The run was carried out, and its outcome decides what
-- was written to `errors`, and the exit status.
abbrev pub EndsPick : List Text → Course → Course → Course → ℕ → Type 0
EndsPick =
    EndsRunOrder (λ pick. invocations.Pick pick) run_faults.Io (λ pick. Picks pick.limits.message_words pick pick.form)
    WritesPickEnding pick_status

-- The words mean a run that picks the messages of a list. The run was carried out, and its outcome decides what was
-- written to `errors`, and the exit status.
abbrev pub EndsOnly : List Text → Course → Course → Course → ℕ → Type 0
EndsOnly = EndsRunOrder (λ only. invocations.Only only) run_faults.Io OnlyPicked WritesPickEnding pick_status

-- The words mean a run that packs or unpacks a stream. The run was carried out, and its outcome decides what was
-- written to `errors`, and the exit status.
abbrev pub EndsFlow : List Text → Course → Course → Course → ℕ → Type 0
EndsFlow = EndsRunOrder (λ flow. invocations.Flow flow) flow_faults.Io Flowed WritesFlowEnding flow_status

-- The words mean a run that makes messages from texts. The run was carried out, and its outcome decides what was
-- written to `errors`, and the exit status.
abbrev pub EndsMake : List Text → Course → Course → Course → ℕ → Type 0
EndsMake =
    EndsRunOrder (λ make. invocations.Make make) make_faults.Io (λ make. MadeBy make.quoted make.form) WritesMakeEnding
    make_status

-- States the effect and the exit status of the program with these `words`. The program ended after one of the runs of
-- this file, or `Unordered` holds.
abbrev pub Ends : List Text → Course → Course → Course → ℕ → Type 0
Ends words input output errors status =
    EndsMessage words input output errors status
    ⊎ (EndsShow words input output errors status
    ⊎ (EndsExplain words input output errors status
    ⊎ (EndsExplainRefused words input output errors status
    ⊎ (EndsAnnotate words input output errors status
    ⊎ (EndsArchive words input output errors status
    ⊎ (EndsUniq words input output errors status
    ⊎ (EndsFilter words input output errors status
    ⊎ (EndsCmp words input output errors status
    ⊎ (EndsPick words input output errors status
    ⊎ (EndsOnly words input output errors status
    ⊎ (EndsFlow words input output errors status
    ⊎ (EndsMake words input output errors status ⊎ Unordered words input output errors status))))))))))))
