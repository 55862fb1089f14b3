-- The result of a run over an archive. (Our own.)
use Rattle.std.specs.Prelude.{ℕ, Option, Some, None, Result, Ok, Err}
use Rattle.capn_serve.specs.SkipFault.{fault_after, outcome_by}
use Rattle.capn_serve.specs.declared.fault.RunFault.{RunFault}
use Rattle.capn_serve.specs.declared.position.Position.{Position}
use Rattle.capn_serve.specs.declared.skip_fault.SkipFault.{SkipFault}
use Rattle.capn_serve.specs.declared.skipped.SkippedSoFar.{SkippedSoFar}
use Rattle.capn_archive.specs.declared.fault.ArchiveFault.{ArchiveFault}
use Rattle.capn_archive.specs.declared.fault.ArchiveFault.TheVariants as faults

-- The result of a run over an archive, from the result of a run that skips messages.
abbrev pub archived : Result (Unit {0}) SkipFault → Result (Unit {0}) ArchiveFault
archived (Ok u) = Ok tt
archived (Err fault) = Err (faults.Ended fault)

-- The result of a run whose loop ended without a fault, after `messages` messages. `skipped` has the count of the
-- skipped messages.
abbrev pub outcome_after : Option SkippedSoFar → ℕ → Result (Unit {0}) ArchiveFault
outcome_after skipped messages = archived (outcome_by skipped messages)

-- If a message at the position `at` ended the loop because it is not canonical, the result is `NotCanonical`. Otherwise
-- `outcome_after` gives the result.
abbrev pub outcome_unless : Option Position → Option SkippedSoFar → ℕ → Result (Unit {0}) ArchiveFault
outcome_unless None skipped messages = outcome_after skipped messages
outcome_unless (Some at) skipped messages = Err (faults.NotCanonical at)

-- The fault of a run after a `RunFault`, after `messages` messages. `skipped` has the count of the skipped messages.
abbrev pub stopped_after : Option SkippedSoFar → ℕ → RunFault → ArchiveFault
stopped_after skipped messages fault = faults.Ended (fault_after skipped messages fault)
