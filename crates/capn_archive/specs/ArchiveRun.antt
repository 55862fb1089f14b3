-- A run over an archive: its fold, its first state and its end. (Our own.)
use Rattle.std.specs.Prelude.{ℕ, List, [], Bool, Option, Result}
use Rattle.capn_serve.specs.declared.fault.RunFault.{RunFault}
use Rattle.capn_serve.specs.declared.position.Position.{Position}
use Rattle.capn_serve.specs.declared.service.Run.{Run}
use Rattle.capn_serve.specs.Finish.{Finish, Finished, finish_of, nothing_told}
use Rattle.capn_serve.specs.Fold.{Fold, fold_of}
use Rattle.capn_serve.specs.StreamRun as streams
use Rattle.capn_archive.specs.declared.fault.ArchiveFault.{ArchiveFault}
use Rattle.capn_archive.specs.declared.task.Task.{Task}
use Rattle.capn_archive.specs.declared.task.Task.TheVariants as tasks
use Rattle.capn_archive.specs.declared.task.ArchiveOrder.{ArchiveOrder}
use Rattle.capn_archive.specs.declared.archive_service.ArchiveService.{ArchiveService}
use Rattle.capn_archive.specs.declared.limits_report.Needs.{Needs}
use Rattle.capn_archive.specs.Lines.{limits_text}
use Rattle.capn_archive.specs.Outcome.{outcome_after, stopped_after}
use Rattle.capn_archive.specs.Tally.{no_tally}
use Rattle.capn_archive.specs.Tasks.{serves, refuses}

-- The fold of a run over an archive with the options `order`.
abbrev pub archive_fold : ArchiveOrder → Fold (Run ArchiveService)
archive_fold order = fold_of serves refuses order.limits.message_words

-- The state of the service before the first message.
abbrev pub first_state : ArchiveOrder → ArchiveService
first_state order = record { order = order; tally = no_tally }

-- The state of a run before its first message.
abbrev pub first_run : ArchiveOrder → Run ArchiveService
first_run order = streams.first_run (first_state order)

-- The figures that `limits` writes in the state `s`, after the message before the position `at`.
abbrev pub needs_of : ArchiveService → Position → Needs
needs_of s at = record { messages = at.index; tally = s.tally; tariff = s.order.limits.tariff }

-- The closing text. For the task `Limits` it has the lines of `limits`, and for any other task it is empty.
abbrev pub closing_by : Task → Needs → List ℕ
closing_by tasks.Limits needs = limits_text needs
closing_by _ needs = []

-- The closing text in the state `s`, after the message before the position `at`.
abbrev pub closing : ArchiveService → Position → List ℕ
closing s at = closing_by s.order.task (needs_of s at)

-- The result of a run whose loop ended without a fault in the state `s`.
abbrev pub outcome : ArchiveService → Position → Result (Unit {0}) ArchiveFault
outcome s at = outcome_after s.tally.skipped at.index

-- The fault of a run after a `RunFault` in the state `s`.
abbrev pub stops : ArchiveService → Position → RunFault → ArchiveFault
stops s at fault = stopped_after s.tally.skipped at.index fault

-- The end of a run over an archive.
abbrev pub archive_finish : Finish (Run ArchiveService) (Unit {0}) ArchiveFault
archive_finish = finish_of closing nothing_told outcome stops

-- The effect of a run with the options `order` that ends with the result `r`. `a` and `b` are the reader before and
-- after the run, and `c` and `d` the writer.
abbrev pub Archived : ArchiveOrder → Option (List ℕ) → Option (List ℕ) → Option (List ℕ) → Option (List ℕ) → Bool → Bool
    → Result (Unit {0}) ArchiveFault → Type 0
Archived order a b c d reader_failed writer_failed r =
    Finished (archive_fold order) (first_run order) archive_finish order.form a b c d reader_failed writer_failed r
