-- The exit status of the program after each kind of run: 0 after `Ok`, and the status of the fault after an `Err`. (Our
-- own.)
use Rattle.std.specs.Prelude.{ℕ, Result}
use Rattle.capn_serve.specs.Ending.{status_of_ending}
use Rattle.capn_serve.specs.FaultText as served
use Rattle.capn_serve.specs.SkipFault as skipping
use Rattle.capn_serve.specs.declared.fault.RunFault.{RunFault}
use Rattle.capn_serve.specs.declared.skip_fault.SkipFault.{SkipFault}
use Rattle.capn_archive.specs.FaultText as archived
use Rattle.capn_archive.specs.declared.fault.ArchiveFault.{ArchiveFault}
use Rattle.capn_make.specs.FaultText as made
use Rattle.capn_make.specs.declared.fault.MakeFault.{MakeFault}
use Rattle.capn_commands.specs.FlowFaultText as flowing
use Rattle.capn_commands.specs.declared.flow_fault.FlowFault.{FlowFault}

-- The exit status after a run over an archive.
abbrev pub archive_status : Result (Unit {0}) ArchiveFault → ℕ
archive_status = status_of_ending archived.status_of

-- The exit status after a run that picks messages.
abbrev pub pick_status : Result (Unit {0}) RunFault → ℕ
pick_status = status_of_ending served.status_of

-- The exit status after a run that explains every refused message.
abbrev pub report_status : Result (Unit {0}) SkipFault → ℕ
report_status = status_of_ending skipping.status_of

-- The exit status after a run that makes messages from texts.
abbrev pub make_status : Result (Unit {0}) MakeFault → ℕ
make_status = status_of_ending made.status_of

-- The exit status after a run that packs or unpacks a stream.
abbrev pub flow_status : Result (Unit {0}) FlowFault → ℕ
flow_status = status_of_ending flowing.status_of
