-- Lemmas for `compare`: a message that was compared has the effect that the fold states.
use Rattle.std.proofs.Common.{◌≡◌, ◌≢◌, inl, inr, ℕ, List, [], Bool, true, false, Result, Ok, Err, refl, ap, subst, sym}
use Rattle.std.proofs.Common.{◌∙◌}
use Rattle.capn_walk.specs.Accepted.{paid}
use Rattle.capn_walk.specs.Limits.{Bounds}
use Rattle.capn_canon.specs.Denotes.{AnswersMessage}
use Rattle.capn_canon.specs.Layout.{canon}
use Rattle.capn_canon.specs.MemoryNeed.{MayNeedBytes}
use Rattle.capn_serve.specs.declared.position.Position.{Position}
use Rattle.capn_serve.specs.declared.fault.ServeFault.{ServeFault}
use Rattle.capn_serve.specs.declared.fault.ServeFault.TheVariants as faults
use Rattle.capn_serve.specs.Outgoing.{Outgoing, AddsBytes, IsUnrefused}
use Rattle.capn_serve.specs.Service.{DoesService}
use Rattle.capn_serve.proofs.shared.Adding.{added_none}
use Rattle.capn_cmp.specs.CmpMessages.{CmpState, Compares, IsForm, IsReport, MayNeedMemory, TriesToCompare, refuses}
use Rattle.capn_cmp.specs.CmpMessages.{serves}
use Rattle.capn_cmp.proofs.OneComparison.{not_formed}

abbrev Ending : Type 0
Ending = Result (Unit {0}) ServeFault

abbrev done : Ending
done = Ok tt

abbrev stopped : ServeFault → Ending
stopped fault = Err fault

-- The state of the service with `limits`, `first` and `differs`.
abbrev pub state : Bounds → List ℕ → Bool → CmpState
state limits first differs = record { limits = limits; first = first; differs = differs }

module _ (s : CmpState) (at : Position) (bytes : List ℕ) where
  module _ (a : Outgoing) (failed : Bool) (fine : failed ≡ false) where
    silent : (t : CmpState) → Compares s at bytes [] t → TriesToCompare s at bytes a a failed done t
    silent t is = ([], is, added_none a, fine, λ h. h)

    pub keeps : at.index ≡ 0 → (first : List ℕ) → first ≡ bytes
        → TriesToCompare s at bytes a a failed done (state s.limits first s.differs)
    keeps zero first same =
        silent (state s.limits first s.differs) (inl (zero, refl, ap (λ (x : List ℕ). state s.limits x s.differs) same))

    pub agrees : at.index ≢ 0 → bytes ≡ s.first → TriesToCompare s at bytes a a failed done s
    agrees later same = silent s (inr (inl (later, same, refl, refl)))

    -- Case: an allocation was refused before anything was added.
    pub no_memory : MayNeedMemory s at bytes → (t : CmpState) (fault : ServeFault) → fault ≡ faults.Memory
        → TriesToCompare s at bytes a a failed (stopped fault) t
    no_memory needs t fault is =
        subst (λ (e : ServeFault). TriesToCompare s at bytes a a failed (stopped e) t) (sym is)
        (inl (added_none a), needs, fine)

  -- Case: the message differs, and all or a prefix of its report was added.
  pub differs_with : at.index ≢ 0 → bytes ≢ s.first → (text : List ℕ) → IsReport at s.first bytes text
      → (a b : Outgoing) (failed : Bool) (r : Ending) → AddsBytes text a b failed r
      → TriesToCompare s at bytes a b failed r (state s.limits s.first true)
  differs_with later other text report a b failed (Ok u) (adds, short, fine) =
      (text, inr (inr (later, other, report, refl)), adds, fine, λ h. short)
  differs_with later other text report a b failed (Err faults.Memory) (none, short, fine) =
      (inr (text, state s.limits s.first true, 0, inr (inr (later, other, report, refl)), none), inr other, fine)
  differs_with later other text report a b failed (Err faults.Io) ((count, breaks), broken) =
      ((text, state s.limits s.first true, count, inr (inr (later, other, report, refl)), breaks), broken)
  differs_with later other text report a b failed (Err (faults.Refused r)) none = absurd none

-- ---- the effect of the service

module _ (s : CmpState) (at : Position) (frame : List ℕ) (message : List (List ℕ)) where
  abbrev Does : Outgoing → Outgoing → Bool → Ending → CmpState → Type 0
  Does a b failed r t = DoesService serves refuses s at frame message a b failed r t

  unrefused : (bytes : List ℕ) → IsForm message s.limits bytes → IsUnrefused (refuses s at frame message)
  unrefused bytes (price, is) e (refused, other) = not_formed message s.limits bytes price e is refused other

  -- Case: the canonical bytes of the message were compared.
  pub compared_does : (bytes : List ℕ) (price : ℕ) → AnswersMessage message s.limits bytes price → (a b : Outgoing)
      (failed : Bool) (r : Ending) (t : CmpState) → TriesToCompare s at bytes a b failed r t → Does a b failed r t
  compared_does bytes price is a b failed (Ok u) t (text, compares, adds, fine, short) =
      ((text, (bytes, (price, is), compares), adds, fine), short)
  compared_does bytes price is a b failed (Err faults.Memory) t (inl none, needs, fine) =
      (inl (none, unrefused bytes (price, is)), fine)
  compared_does bytes price is a b failed (Err faults.Memory) t (inr (text, u, count, compares, adds), needs, fine) =
      (inr (text, u, count, (bytes, (price, is), compares), adds), fine)
  compared_does bytes price is a b failed (Err faults.Io) t ((text, u, count, compares, breaks), broken) =
      ((text, u, count, (bytes, (price, is), compares), breaks), broken)
  compared_does bytes price is a b failed (Err (faults.Refused e)) t none = absurd none

  -- Case: memory for the canonical bytes was refused.
  pub unformed_does : MayNeedBytes message s.limits → (a : Outgoing) (failed : Bool) → failed ≡ false
      → Does a a failed (stopped faults.Memory) s
  unformed_does (v, is, free) a failed fine =
      let made : AnswersMessage message s.limits (canon v) (paid message s.limits) =
      record { value = v; is = is; free = free; canonical = refl; priced = refl } in
      (inl (added_none a, unrefused (canon v) (paid message s.limits, made)), fine)

-- ---- lemmas with the fields of a state as arguments

module _ (limits : Bounds) (first : List ℕ) (differs : Bool) (s : CmpState) (same : state limits first differs ≡ s)
    (at : Position) (later : at.index ≢ 0) (bytes own : List ℕ) (is : own ≡ first) where
  pub agrees_with : own ≡ bytes → (a : Outgoing) (failed : Bool) → failed ≡ false
      → TriesToCompare s at bytes a a failed done s
  agrees_with alike a failed fine =
      agrees s at bytes a failed fine later (sym alike ∙ is ∙ ap (λ (q : CmpState). q.first) same)

  pub differs_from : own ≢ bytes → (other : List ℕ) → other ≡ first → (text : List ℕ) → IsReport at other bytes text
      → (sent : List ℕ) → sent ≡ text → (a b : Outgoing) (failed : Bool) (r : Ending) → AddsBytes sent a b failed r
      → TriesToCompare s at bytes a b failed r (state limits first true)
  differs_from differ other there text report sent told a b failed r adds =
      subst (λ (q : CmpState). TriesToCompare q at bytes a b failed r (state limits first true)) same
      (differs_with (state limits first differs) at bytes later (λ e. differ (is ∙ sym e)) text
      (subst (λ (x : List ℕ). IsReport at x bytes text) there report) a b failed r
      (subst (λ (x : List ℕ). AddsBytes x a b failed r) told adds))
