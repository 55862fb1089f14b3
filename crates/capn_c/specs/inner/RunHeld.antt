-- The result of a task on a message that is held in segments, or the reason why the segments are no message.
use Rattle.std.specs.Prelude.{◌≡◌, ◌⊎◌, ℕ, List, Result, Err}
use Rattle.capn_stream.specs.Segments.{IsHeld}
use Rattle.capn_walk.specs.Limits.{Bounds}
use Rattle.capn_canon.specs.declared.refusal.Refusal.{Refusal}
use Rattle.capn_c.specs.Held.{IsHeldOr}

-- Either the segments of `message` are held within the limits, `answers` allows `r` for `message`, and the task changes
-- from `old` to `new` as `answers` says. Or `r` is an `Err` with the reason why the segments are no message, and `new`
-- equals `old`.
abbrev pub IsRunHeld : {T S : Type 0} → List (List ℕ) → Bounds
    → (S → List (List ℕ) → Bounds → Result T Refusal → S → Type 0) → S → Result T Refusal → S → Type 0
IsRunHeld message limits answers old r new =
    (IsHeld message limits.message_words × answers old message limits r new)
    ⊎ ((e : Refusal) × (r ≡ Err e) × IsHeldOr message limits (Err e) × (new ≡ old))
