-- The error line after each kind of run, if the run ended with a fault. (Our own.)
use Rattle.std.specs.Prelude.{ℕ, ◌≡◌, List, codes, Bool, Option, Result, refl}
use Rattle.std.specs.Fmt.{digits}
use Rattle.capn_serve.specs.Ending.{WritesEnding, fault_text_line}
use Rattle.capn_serve.specs.FaultText as served
use Rattle.capn_serve.specs.SkipFault as skipping
use Rattle.capn_serve.specs.declared.fault.RunFault.{RunFault}
use Rattle.capn_serve.specs.declared.skip_fault.SkipFault.{SkipFault}
use Rattle.capn_serve.specs.declared.skip_fault.SkipFault.TheVariants as skip_faults
use Rattle.capn_archive.specs.FaultText.{archive_text}
use Rattle.capn_archive.specs.declared.fault.ArchiveFault.{ArchiveFault}
use Rattle.capn_archive.specs.declared.fault.ArchiveFault.TheVariants as faults
use Rattle.capn_make.specs.FaultText as made
use Rattle.capn_make.specs.declared.fault.MakeFault.{MakeFault}
use Rattle.capn_commands.specs.FlowFaultText as flowing
use Rattle.capn_commands.specs.declared.flow_fault.FlowFault.{FlowFault}

skipped : fault_text_line (archive_text (faults.Ended (skip_faults.Skipped (record {
  refused = 3;
  messages = 12;
  first = record { index = 2; offset = 40 };
})))) ≡ codes "capn: 3 of 12 messages refused, the first is 3 at 40\n"
unfolding digits
skipped = refl

-- `WritesEnding` for a run over an archive: after `Ok` nothing was written, and after an `Err` the error line or a
-- prefix of that line.
abbrev pub WritesArchiveEnding : Result (Unit {0}) ArchiveFault → Option (List ℕ) → Option (List ℕ) → Bool → Type 0
WritesArchiveEnding = WritesEnding archive_text

-- `WritesEnding` for a run that picks messages: after `Ok` nothing was written, and after an `Err` the error line or a
-- prefix of that line.
abbrev pub WritesPickEnding : Result (Unit {0}) RunFault → Option (List ℕ) → Option (List ℕ) → Bool → Type 0
WritesPickEnding = WritesEnding served.fault_text

-- `WritesEnding` for a run that explains every refused message: after `Ok` nothing was written, and after an `Err` the
-- error line or a prefix of that line.
abbrev pub WritesReportEnding : Result (Unit {0}) SkipFault → Option (List ℕ) → Option (List ℕ) → Bool → Type 0
WritesReportEnding = WritesEnding skipping.skip_text

-- `WritesEnding` for a run that makes messages from texts: after `Ok` nothing was written, and after an `Err` the error
-- line or a prefix of that line.
abbrev pub WritesMakeEnding : Result (Unit {0}) MakeFault → Option (List ℕ) → Option (List ℕ) → Bool → Type 0
WritesMakeEnding = WritesEnding made.fault_text

-- `WritesEnding` for a run that packs or unpacks a stream: after `Ok` nothing was written, and after an `Err` the error
-- line or a prefix of that line.
abbrev pub WritesFlowEnding : Result (Unit {0}) FlowFault → Option (List ℕ) → Option (List ℕ) → Bool → Type 0
WritesFlowEnding = WritesEnding flowing.fault_text
