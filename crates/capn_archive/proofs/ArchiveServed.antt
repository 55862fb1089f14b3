-- Lemmas for `add_message`: a message that the service serves or skips has the effect that the fold states.
use Rattle.std.proofs.Common.{◌≡◌, inl, inr, ℕ, List, [], Bool, false, Result, Ok, Err, refl, sym, subst, append-nil}
use Rattle.std.proofs.KnownBytes.{Appends-nil}
use Rattle.capn_canon.specs.declared.refusal.Refusal.{Refusal}
use Rattle.capn_serve.specs.declared.position.Position.{Position}
use Rattle.capn_serve.specs.declared.fault.ServeFault.{ServeFault}
use Rattle.capn_serve.specs.declared.fault.ServeFault.TheVariants as faults
use Rattle.capn_serve.specs.Outgoing.{Outgoing, Adds}
use Rattle.capn_serve.specs.Service.{AddsOne}
use Rattle.capn_archive.specs.Tasks.{AddsServed, refuses, serves}
use Rattle.capn_archive.specs.declared.task.ArchiveOrder.{ArchiveOrder}
use Rattle.capn_archive.specs.declared.tally.Tally.{Tally}
use Rattle.capn_archive.specs.declared.archive_service.ArchiveService.{ArchiveService}

abbrev Ending : Type 0
Ending = Result (Unit {0}) ServeFault

abbrev stopped : ServeFault → Ending
stopped fault = Err fault

-- The state of the service with `order` and `tally`.
abbrev state : ArchiveOrder → Tally → ArchiveService
state order tally = record { order = order; tally = tally }

module _ (order : ArchiveOrder) (tally : Tally) (at : Position) (frame : List ℕ) (message : List (List ℕ)) where
  -- Case: if the message was served, or a fault ends the run, `AddsOne` holds.
  pub served_does : (after : Tally) (a b : Outgoing) (failed : Bool) (r : Ending)
      → AddsServed order.task order.limits tally at frame message a b failed r after
      → ((e : Refusal) → r ≡ stopped (faults.Refused e) → order.keep_going ≡ false)
      → AddsOne serves refuses (state order tally) at frame message a b failed r (state order after)
  served_does after a b failed (Ok u) (text, is, adds, fine) ends = (text, (refl, inl is), adds, fine)
  served_does after a b failed (Err faults.Memory) ((text, t, count, is, adds), fine) ends =
      (inr (text, state order t, count, (refl, inl is), adds), fine)
  served_does after a b failed (Err faults.Io) ((text, t, count, is, breaks), broken) ends =
      ((text, state order t, count, (refl, inl is), breaks), broken)
  served_does after a b failed (Err (faults.Refused e)) (refused, same, kept, fine) ends = (
    (ends e refl, refused),
    subst (λ (x : Outgoing). Adds a x []) (sym same) ([], Appends-nil a.taken, sym (append-nil a.kept)),
    fine,
  )
