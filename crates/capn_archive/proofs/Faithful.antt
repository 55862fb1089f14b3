-- Lemmas for `run_archive`, `run_filter` and `run_uniq`: `IsFaithful` holds for the end of each run. A run reports a
-- refused message or the count of skipped messages, never both.
use Rattle.std.proofs.Common.{◌≡◌, ℕ, List, Option, None, Some, Result, Ok, Err, refl, ap, sym, ◌∙◌}
use Rattle.capn_walk.specs.Limits.{Bounds}
use Rattle.capn_canon.specs.Refusal.{IsRefusedMessage}
use Rattle.capn_canon.specs.declared.refusal.Refusal.{Refusal}
use Rattle.capn_canon.specs.declared.refusal.Refusal.TheVariants as refusals
use Rattle.capn_serve.specs.Finish.{Finish}
use Rattle.capn_serve.specs.Fold.{Fold}
use Rattle.capn_serve.specs.SkipFault.{fault_after, outcome_by, refused_after}
use Rattle.capn_serve.specs.declared.fault.RunFault.{RunFault}
use Rattle.capn_serve.specs.declared.fault.RunFault.TheVariants as run_faults
use Rattle.capn_serve.specs.declared.position.Position.{Position}
use Rattle.capn_serve.specs.declared.skip_fault.SkipFault.{SkipFault}
use Rattle.capn_serve.specs.declared.skip_fault.SkipFault.TheVariants as skip_faults
use Rattle.capn_serve.specs.declared.skipped.SkippedSoFar.{SkippedSoFar}
use Rattle.capn_serve.proofs.shared.Finishes.{IsFaithful, one_fault}
use Rattle.capn_serve.proofs.shared.SkipFaults.{fault_io, fault_memory, outcome_not_io}
use Rattle.capn_archive.specs.ArchiveRun as archives
use Rattle.capn_archive.specs.FilterRun as filters
use Rattle.capn_archive.specs.UniqRun as uniqs
use Rattle.capn_archive.specs.Outcome.{archived, outcome_after, outcome_unless, stopped_after}
use Rattle.capn_archive.specs.Tasks.{IsRefusedBy}
use Rattle.capn_archive.specs.declared.fault.ArchiveFault.{ArchiveFault}
use Rattle.capn_archive.specs.declared.fault.ArchiveFault.TheVariants as faults
use Rattle.capn_archive.specs.declared.filter_order.FilterOrder.{FilterOrder}
use Rattle.capn_archive.specs.declared.task.ArchiveOrder.{ArchiveOrder}
use Rattle.capn_archive.specs.declared.task.Task.{Task}
use Rattle.capn_archive.specs.declared.task.Task.TheVariants as tasks
use Rattle.capn_archive.specs.declared.uniq_order.UniqOrder.{UniqOrder}
use Rattle.capn_archive.proofs.OneArchive.{refused_message}

-- ---- the faults

same_end : (e g : SkipFault) → faults.Ended e ≡ faults.Ended g → e ≡ g
same_end e g is = let k : e ≡ g = cc in k

stopped_io : (s : Option SkippedSoFar) (n : ℕ) (e : RunFault)
    → stopped_after s n e ≡ faults.Ended (skip_faults.Ended run_faults.Io) → e ≡ run_faults.Io
stopped_io s n e is = fault_io s n e (same_end (fault_after s n e) (skip_faults.Ended run_faults.Io) is)

stopped_memory : (s : Option SkippedSoFar) (n : ℕ) (e : RunFault)
    → stopped_after s n e ≡ faults.Ended (skip_faults.Ended run_faults.Memory) → e ≡ run_faults.Memory
stopped_memory s n e is = fault_memory s n e (same_end (fault_after s n e) (skip_faults.Ended run_faults.Memory) is)

-- ---- the outcome

abbrev Over : Type 0
Over = Result (Unit {0}) SkipFault

archived_io : (r : Over) → archived r ≡ Err (faults.Ended (skip_faults.Ended run_faults.Io))
    → r ≡ Err (skip_faults.Ended run_faults.Io)
archived_io (Ok u) is = absurd (cc)
archived_io (Err e) is =
    ap (λ (g : SkipFault). Err g)
    (same_end e (skip_faults.Ended run_faults.Io) (one_fault (faults.Ended e) _ is))

not_io : (s : Option SkippedSoFar) (n : ℕ)
    → outcome_after s n ≡ Err (faults.Ended (skip_faults.Ended run_faults.Io)) → ⊥
not_io s n is = outcome_not_io s n (archived_io (outcome_by s n) is)

unless_not_io : (at : Option Position) (s : Option SkippedSoFar) (n : ℕ)
    → outcome_unless at s n ≡ Err (faults.Ended (skip_faults.Ended run_faults.Io)) → ⊥
unless_not_io (Some at) s n is = absurd (cc)
unless_not_io None s n is = not_io s n is

-- ---- a refused message

-- The refusal `r` is reported without a count of skipped messages, even if messages were skipped.
abbrev IsAlone : Refusal → Type 0
IsAlone r = (s : Option SkippedSoFar) (n : ℕ) (at : Position)
    → refused_after s n at r ≡ skip_faults.Ended (run_faults.Refused at r)

alike : (r : Refusal) → IsAlone r → (s t : Option SkippedSoFar) (n k : ℕ) (at : Position)
    → stopped_after s n (run_faults.Refused at r) ≡ stopped_after t k (run_faults.Refused at r)
alike r alone s t n k at = ap faults.Ended (alone s n at ∙ sym (alone t k at))

module _ (m : List (List ℕ)) (limits : Bounds) where
  message_alone : (r : Refusal) → IsRefusedMessage m limits r → IsAlone r
  message_alone (refusals.Bare e) h s n at = refl
  message_alone (refusals.Packed e) h s n at = absurd h
  message_alone (refusals.Frame e) h s n at = absurd h
  message_alone (refusals.Trailing offset) h s n at = refl
  message_alone (refusals.Walk stopped) h s n at = refl
  message_alone (refusals.Capability index) h s n at = refl
  message_alone refusals.Memory h s n at = refl

  task_alone : (task : Task) (r : Refusal) → IsRefusedBy task m limits r → IsAlone r
  task_alone task r h = message_alone r (refused_message m limits task r h).0

-- ---- the three runs

pub archive_faithful : (order : ArchiveOrder)
    → IsFaithful (archives.archive_fold order) (archives.first_run order) archives.archive_finish
archive_faithful order = record {
  memory = λ y. refl;
  io = λ y. refl;
  of_memory = λ y e is. stopped_memory y.service.tally.skipped y.at.index e is;
  of_io = λ y e is. stopped_io y.service.tally.skipped y.at.index e is;
  not_io = λ y is. not_io y.service.tally.skipped y.at.index is;
  left = λ z y frame message r h. (
    alike r (task_alone message z.service.order.limits z.service.order.task r h.1) z.service.tally.skipped
        y.service.tally.skipped z.at.index y.at.index z.at,
    λ came. refl,
  );
}

pub uniq_faithful : (order : UniqOrder) → IsFaithful (uniqs.uniq_fold order) (uniqs.first_run order) uniqs.uniq_finish
uniq_faithful order = record {
  memory = λ y. refl;
  io = λ y. refl;
  of_memory = λ y e is. stopped_memory y.service.skipped y.at.index e is;
  of_io = λ y e is. stopped_io y.service.skipped y.at.index e is;
  not_io = λ y is. not_io y.service.skipped y.at.index is;
  left = λ z y frame message r h. (
    alike r (message_alone message z.service.order.limits r h.1.0) z.service.skipped y.service.skipped z.at.index
        y.at.index z.at,
    λ came. refl,
  );
}

pub filter_faithful : (order : FilterOrder)
    → IsFaithful (filters.filter_fold order) (filters.first_run order) filters.filter_finish
filter_faithful order = record {
  memory = λ y. refl;
  io = λ y. refl;
  of_memory = λ y e is. stopped_memory y.service.skipped y.at.index e is;
  of_io = λ y e is. stopped_io y.service.skipped y.at.index e is;
  not_io = λ y is. unless_not_io y.service.ended y.service.skipped y.at.index is;
  left = λ z y frame message r h. (
    alike r (task_alone message z.service.order.limits tasks.List r h.1) z.service.skipped y.service.skipped z.at.index
        y.at.index z.at,
    λ came. refl,
  );
}
