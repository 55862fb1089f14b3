-- Lemmas for `run_explain` and `run_explain_refused`: `IsFaithful` holds for the end of each run.
use Rattle.std.proofs.Common.{◌≡◌, ℕ, Option, Result, Ok, Err, refl, ap}
use Rattle.capn_serve.specs.declared.fault.RunFault.{RunFault}
use Rattle.capn_serve.specs.declared.fault.RunFault.TheVariants as run_faults
use Rattle.capn_serve.specs.declared.skip_fault.SkipFault.{SkipFault}
use Rattle.capn_serve.specs.declared.skip_fault.SkipFault.TheVariants as faults
use Rattle.capn_serve.specs.declared.skipped.SkippedSoFar.{SkippedSoFar}
use Rattle.capn_serve.specs.SkipFault.{fault_after}
use Rattle.capn_serve.proofs.shared.Finishes.{IsFaithful, one_fault}
use Rattle.capn_serve.proofs.shared.SkipFaults.{fault_io, fault_memory, outcome_not_io}
use Rattle.capn_explain.specs.ExplainRun.{ending, explain_finish, explain_fold, first_run}
use Rattle.capn_explain.specs.RefusedRun.{answer_by, refused_finish}
use Rattle.capn_explain.specs.Reports.{skipped_in}
use Rattle.capn_explain.specs.declared.order.Order.{Order}
use Rattle.capn_explain.proofs.Closings.{Ending, ending_not_io, stopped}

pub explain_faithful : (order : Order) → IsFaithful (explain_fold order) (first_run order) explain_finish
explain_faithful order = record {
  memory = λ y. refl;
  io = λ y. refl;
  of_memory = λ y e is. is;
  of_io = λ y e is. is;
  not_io = λ y is. ending_not_io y.service.outcome y.service.order.wanted y.service.first is;
  left = λ z y frame message r h. absurd h;
}

answer_not_io : (s : Option SkippedSoFar) (n : ℕ) (r : Ending) → (r ≡ Err run_faults.Io → ⊥)
    → answer_by s n r ≡ Err (faults.Ended run_faults.Io) → ⊥
answer_not_io s n (Ok u) other is = outcome_not_io s n is
answer_not_io s n (Err e) other is =
    other (ap stopped (fault_io s n e (one_fault (fault_after s n e) (faults.Ended run_faults.Io) is)))

pub refused_faithful : (order : Order) → IsFaithful (explain_fold order) (first_run order) refused_finish
refused_faithful order = record {
  memory = λ y. refl;
  io = λ y. refl;
  of_memory = λ y e is. fault_memory (skipped_in y.service.outcome) y.at.index e is;
  of_io = λ y e is. fault_io (skipped_in y.service.outcome) y.at.index e is;
  not_io = λ y is. answer_not_io (skipped_in y.service.outcome) y.at.index (ending y.service y.at)
      (ending_not_io y.service.outcome y.service.order.wanted y.service.first) is;
  left = λ z y frame message r h. absurd h;
}
