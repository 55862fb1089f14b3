-- Lemmas for `serve` of `filter`: a message, let through or not, has the effect that the fold states.
use Rattle.std.proofs.Common.{◌≡◌, inl, inr, ℕ, List, [], Bool, true, false, Option, Some, Result, Ok, refl, ap}
use Rattle.capn_serve.specs.declared.position.Position.{Position}
use Rattle.capn_serve.specs.declared.fault.ServeFault.{ServeFault}
use Rattle.capn_serve.specs.Outgoing.{Outgoing, AddsBytes}
use Rattle.capn_serve.specs.Service.{DoesService}
use Rattle.capn_serve.proofs.shared.Adding.{added_none, does_add}
use Rattle.capn_archive.specs.declared.filter_order.FilterOrder.{FilterOrder}
use Rattle.capn_archive.specs.declared.filter_service.FilterService.{FilterService}
use Rattle.capn_serve.specs.declared.skipped.SkippedSoFar.{SkippedSoFar}
use Rattle.capn_archive.specs.FilterMessages.{IsHeldBack, IsUncanonical, Passes, refuses, serves}
use Rattle.capn_serve.specs.Skipped.{one_more}

abbrev Ending : Type 0
Ending = Result (Unit {0}) ServeFault

abbrev done : Ending
done = Ok tt

-- The state of the service with `order`, `skipped` and `ended`.
abbrev state : FilterOrder → Option SkippedSoFar → Option Position → FilterService
state order skipped ended = record { order = order; skipped = skipped; ended = ended }

module _ (s : FilterService) (at : Position) (frame : List ℕ) (message : List (List ℕ)) where
  -- Case: if the message is let through, `DoesService` holds after the call that adds its frame.
  pub let_through : Passes s.order.canonical message s.order.limits → (a b : Outgoing) (failed : Bool) (r : Ending)
      → AddsBytes frame a b failed r → DoesService serves refuses s at frame message a b failed r s
  let_through passes a b failed r adds =
      does_add serves refuses s s at frame message a b frame (inl (passes, refl, refl)) failed r adds

  module _ (a : Outgoing) (failed : Bool) (fine : failed ≡ false) where
    held_back : (t : FilterService) → serves s at frame message [] t
        → DoesService serves refuses s at frame message a a failed done t
    held_back t is = (([], is, added_none a, fine), λ h. h)

    -- Case: if the message was skipped, `DoesService` holds.
    pub skips : s.order.keep_going ≡ true → IsHeldBack s message → (more : SkippedSoFar) → more ≡ one_more s.skipped at
        → DoesService serves refuses s at frame message a a failed done (state s.order (Some more) s.ended)
    skips going held more one =
        held_back (state s.order (Some more) s.ended)
        (inr (inl (going, held, refl, ap (λ (k : SkippedSoFar). state s.order (Some k) s.ended) one)))

    -- Case: if the message ended the run because it is not canonical, `DoesService` holds.
    pub ends : s.order.keep_going ≡ false → IsUncanonical s.order.canonical message s.order.limits
        → DoesService serves refuses s at frame message a a failed done (state s.order s.skipped (Some at))
    ends stays other =
        held_back (state s.order s.skipped (Some at)) (inr (inr (stays, other, refl, refl)))
