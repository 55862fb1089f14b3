-- The effect of a service on one message. (Our own.)
use Rattle.std.specs.Prelude.{◌≡◌, ◌⊎◌, ℕ, ◌<◌, List, [], ◌++◌, length, Bool, true, false, Result, Ok, Err}
use Rattle.capn_canon.specs.declared.refusal.Refusal.{Refusal}
use Rattle.capn_serve.specs.declared.position.Position.{Position}
use Rattle.capn_serve.specs.declared.fault.ServeFault.{ServeFault}
use Rattle.capn_serve.specs.declared.fault.ServeFault.TheVariants as faults
use Rattle.capn_serve.specs.Outgoing.{Outgoing, Adds, BreaksWithin, IsUnrefused, RunsOut}

-- After `Ok`, the service added the `text` of `message`, and `t` is the next state. After `Refused`, nothing was added.
-- After `Memory`, a prefix of `text` was added, or nothing was added for a `message` that is not refused. After `Io`, a
-- prefix of `old.kept ++ text` was written.
abbrev pub AddsOne : {S : Type 0} → (S → Position → List ℕ → List (List ℕ) → List ℕ → S → Type 0)
    → (S → Position → List ℕ → List (List ℕ) → Refusal → Type 0) → S → Position → List ℕ → List (List ℕ) → Outgoing
    → Outgoing → Bool → Result (Unit {0}) ServeFault → S → Type 0
AddsOne serves refuses s at frame message old new failed (Ok u) t =
    (text : List ℕ) × serves s at frame message text t × Adds old new text × (failed ≡ false)
AddsOne serves refuses s at frame message old new failed (Err (faults.Refused r)) t =
    refuses s at frame message r × Adds old new [] × (failed ≡ false)
AddsOne serves refuses s at frame message old new failed (Err faults.Memory) t =
    RunsOut (serves s at frame message) (refuses s at frame message) old new × (failed ≡ false)
AddsOne serves refuses s at frame message old new failed (Err faults.Io) t =
    BreaksWithin (serves s at frame message) old new × (failed ≡ true)

-- `AddsOne` holds. After `Ok`, if `old.kept` has fewer than 65,536 bytes, `new.kept` has fewer than 65,536 bytes too.
abbrev pub DoesService : {S : Type 0} → (S → Position → List ℕ → List (List ℕ) → List ℕ → S → Type 0)
    → (S → Position → List ℕ → List (List ℕ) → Refusal → Type 0) → S → Position → List ℕ → List (List ℕ) → Outgoing
    → Outgoing → Bool → Result (Unit {0}) ServeFault → S → Type 0
DoesService serves refuses s at frame message old new failed (Ok u) t =
    AddsOne serves refuses s at frame message old new failed (Ok u) t
    × (length old.kept < 65536 → length new.kept < 65536)
DoesService serves refuses s at frame message old new failed (Err fault) t =
    AddsOne serves refuses s at frame message old new failed (Err fault) t

-- The effect of a service that only appends to a text. After `Ok`, the text of `message` was appended to `old`, and `t`
-- is the next state. After `Refused` or `Memory`, nothing was appended. After `Memory`, `message` has a text, or is not
-- refused.
abbrev pub PutsMessage : {S : Type 0} → (S → Position → List ℕ → List (List ℕ) → List ℕ → S → Type 0)
    → (S → Position → List ℕ → List (List ℕ) → Refusal → Type 0) → S → Position → List ℕ → List (List ℕ) → List ℕ
    → List ℕ → Result (Unit {0}) ServeFault → S → Type 0
PutsMessage {S = S} serves refuses s at frame message old new (Ok u) t =
    (text : List ℕ) × serves s at frame message text t × (new ≡ old ++ text)
PutsMessage {S = S} serves refuses s at frame message old new (Err (faults.Refused r)) t =
    refuses s at frame message r × (new ≡ old)
PutsMessage {S = S} serves refuses s at frame message old new (Err faults.Memory) t =
    (((text : List ℕ) × (u : S) × serves s at frame message text u) ⊎ IsUnrefused (refuses s at frame message))
    × (new ≡ old)
PutsMessage {S = S} serves refuses s at frame message old new (Err faults.Io) t = ⊥
