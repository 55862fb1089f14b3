-- Lemmas for the callers of `run_messages`: the fault and the outcome of a run that skips refused messages.
use Rattle.std.proofs.Common.{◌≡◌, ◌≢◌, ℕ, Option, None, Some, Result, Ok, Err, refl}
use Rattle.capn_canon.specs.declared.refusal.Refusal.{Refusal}
use Rattle.capn_canon.specs.declared.refusal.Refusal.TheVariants as refusals
use Rattle.capn_serve.specs.declared.position.Position.{Position}
use Rattle.capn_serve.specs.declared.fault.RunFault.{RunFault}
use Rattle.capn_serve.specs.declared.fault.RunFault.TheVariants as run_faults
use Rattle.capn_serve.specs.declared.skip_fault.SkipFault.{SkipFault}
use Rattle.capn_serve.specs.declared.skip_fault.SkipFault.TheVariants as faults
use Rattle.capn_serve.specs.declared.skipped.Skipped.{Skipped}
use Rattle.capn_serve.specs.declared.skipped.SkippedSoFar.{SkippedSoFar}
use Rattle.capn_serve.specs.SkipFault.{after_skipped, fault_after, outcome_by, refused_after}
use Rattle.capn_serve.specs.Skipped.{skipped_of}

refused_is : (P : SkipFault → Type 0) → ((at : Position) (r : Refusal) → P (faults.Ended (run_faults.Refused at r)))
    → ((k : Skipped) (at : Position) (r : Refusal) → P (faults.RefusedAfterSkipped k at r))
    → (s : Option SkippedSoFar) (n : ℕ) (at : Position) (r : Refusal) → P (after_skipped s n at r)
refused_is P first after None n at r = first at r
refused_is P first after (Some s) n at r = after (skipped_of s n) at r

each_refused : (P : SkipFault → Type 0) → ((at : Position) (r : Refusal) → P (faults.Ended (run_faults.Refused at r)))
    → ((k : Skipped) (at : Position) (r : Refusal) → P (faults.RefusedAfterSkipped k at r))
    → (s : Option SkippedSoFar) (n : ℕ) (at : Position) (r : Refusal) → P (refused_after s n at r)
each_refused P first after s n at (refusals.Bare e) = first at (refusals.Bare e)
each_refused P first after s n at (refusals.Packed e) = refused_is P first after s n at (refusals.Packed e)
each_refused P first after s n at (refusals.Frame e) = refused_is P first after s n at (refusals.Frame e)
each_refused P first after s n at (refusals.Trailing offset) = first at (refusals.Trailing offset)
each_refused P first after s n at (refusals.Walk stopped) = first at (refusals.Walk stopped)
each_refused P first after s n at (refusals.Capability index) = first at (refusals.Capability index)
each_refused P first after s n at refusals.Memory = first at refusals.Memory

refused_not_io : (s : Option SkippedSoFar) (n : ℕ) (at : Position) (r : Refusal)
    → refused_after s n at r ≢ faults.Ended run_faults.Io
refused_not_io s n at r =
    each_refused (λ (e : SkipFault). e ≢ faults.Ended run_faults.Io) (λ p q h. absurd (cc)) (λ k p q h. absurd (cc)) s n
    at r

refused_not_memory : (s : Option SkippedSoFar) (n : ℕ) (at : Position) (r : Refusal)
    → refused_after s n at r ≢ faults.Ended run_faults.Memory
refused_not_memory s n at r =
    each_refused (λ (e : SkipFault). e ≢ faults.Ended run_faults.Memory) (λ p q h. absurd (cc))
    (λ k p q h. absurd (cc)) s n at r

pub fault_io : (s : Option SkippedSoFar) (n : ℕ) (e : RunFault) → fault_after s n e ≡ faults.Ended run_faults.Io
    → e ≡ run_faults.Io
fault_io s n run_faults.Memory is = absurd (cc)
fault_io s n run_faults.Io is = refl
fault_io s n run_faults.InputTooLong is = absurd (cc)
fault_io s n (run_faults.Refused at r) is = absurd (refused_not_io s n at r is)

pub fault_memory : (s : Option SkippedSoFar) (n : ℕ) (e : RunFault)
    → fault_after s n e ≡ faults.Ended run_faults.Memory → e ≡ run_faults.Memory
fault_memory s n run_faults.Memory is = refl
fault_memory s n run_faults.Io is = absurd (cc)
fault_memory s n run_faults.InputTooLong is = absurd (cc)
fault_memory s n (run_faults.Refused at r) is = absurd (refused_not_memory s n at r is)

pub outcome_not_io : (s : Option SkippedSoFar) (n : ℕ) → outcome_by s n ≡ Err (faults.Ended run_faults.Io) → ⊥
outcome_not_io None n is = absurd (cc)
outcome_not_io (Some s) n is = absurd (cc)
