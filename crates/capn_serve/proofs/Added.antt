-- Lemmas for `add_message`: the effect of a message on a run, if the service serves the message, and if it does not.
use Rattle.std.proofs.Common.{◌≡◌, inl, inr, ℕ, List, Bool, Result, Err, refl, sym, subst}
use Rattle.capn_canon.specs.declared.refusal.Refusal.{Refusal}
use Rattle.capn_serve.specs.declared.position.Position.{Position}
use Rattle.capn_serve.specs.declared.service.Run.{Run}
use Rattle.capn_serve.specs.declared.fault.RunFault.{RunFault}
use Rattle.capn_serve.specs.declared.fault.RunFault.TheVariants as faults
use Rattle.capn_serve.specs.declared.fault.ServeFault.{ServeFault}
use Rattle.capn_serve.specs.declared.fault.ServeFault.TheVariants as serve_faults
use Rattle.capn_serve.specs.Fold.{after, fold_until}
use Rattle.capn_serve.specs.Outgoing.{Outgoing}
use Rattle.capn_serve.specs.ChunkRun.{AddsMessage}
use Rattle.capn_serve.specs.Service.{DoesService}

abbrev stopped : {E : Type 0} → E → Result (Unit {0}) E
stopped fault = Err fault

-- The fault of a run whose service returned a `ServeFault` for the message at the position `at`.
abbrev pub told_at : Position → ServeFault → RunFault
told_at at serve_faults.Memory = faults.Memory
told_at at serve_faults.Io = faults.Io
told_at at (serve_faults.Refused r) = faults.Refused at r

module _ {S : Type 0} (serves : S → Position → List ℕ → List (List ℕ) → List ℕ → S → Type 0)
    (refuses : S → Position → List ℕ → List (List ℕ) → Refusal → Type 0) (done : S → Position → Bool) (most : ℕ)
    (x y : Run S) (frame : List ℕ) (message : List (List ℕ)) (a b : Outgoing) (failed : Bool) (t : S) where
  -- The run after the message was served.
  abbrev next : S → Run S
  next u = record { service = u; at = after x.at frame }

  stops : (fault : ServeFault)
      → DoesService serves refuses x.service x.at frame message a b failed (stopped fault) t
      → AddsMessage (fold_until serves refuses done most) x frame message a b failed (stopped (told_at x.at fault)) y
  stops serve_faults.Memory (inl none, fine) = (inl none, fine)
  stops serve_faults.Memory (inr (text, u, count, step, adds), fine) =
      (inr (text, next u, count, (step, refl), adds), fine)
  stops serve_faults.Io ((text, u, count, step, breaks), broken) = ((text, next u, count, (step, refl), breaks), broken)
  stops (serve_faults.Refused r) (refused, none, fine) = (refl, refused, none, fine)

  -- Case: the service returned `fault` for the message.
  pub added_stop : (fault : ServeFault) (told : RunFault) → told ≡ told_at x.at fault
      → DoesService serves refuses x.service x.at frame message a b failed (stopped fault) t
      → AddsMessage (fold_until serves refuses done most) x frame message a b failed (stopped told) y
  added_stop fault told is served =
      subst (λ (g : RunFault). AddsMessage (fold_until serves refuses done most) x frame message a b failed (stopped g)
      y) (sym is) (stops fault served)
