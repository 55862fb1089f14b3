-- The messages that `filter` lets through: the accepted ones, or only the canonical ones. (Our own.)
use Rattle.std.specs.Prelude.{◌≡◌, ◌⊎◌, ℕ, List, [], Bool, true, false, None, Some, is_some}
use Rattle.capn_value.specs.Tree.{Tree}
use Rattle.capn_walk.specs.Limits.{Bounds}
use Rattle.capn_walk.specs.Accepted.{IsAccepted, IsValueOf}
use Rattle.capn_canon.specs.Measure.{IsCanonicalOf}
use Rattle.capn_canon.specs.declared.refusal.Refusal.{Refusal}
use Rattle.capn_serve.specs.declared.position.Position.{Position}
use Rattle.capn_archive.specs.declared.filter_order.FilterOrder.{FilterOrder}
use Rattle.capn_archive.specs.declared.filter_service.FilterService.{FilterService}
use Rattle.capn_archive.specs.declared.task.Task.TheVariants as tasks
use Rattle.capn_serve.specs.Skipped.{one_more}
use Rattle.capn_archive.specs.Tasks.{IsRefusedBy}

-- `message` is accepted within `limits`. If the first argument is `true`, `message` is also canonical.
abbrev pub Passes : Bool → List (List ℕ) → Bounds → Type 0
Passes false message limits = IsAccepted message limits
Passes true message limits = (v : Tree) × IsValueOf message limits v × IsCanonicalOf message v

-- The first argument is `true`, and `message` is accepted within `limits` but is not canonical.
abbrev pub IsUncanonical : Bool → List (List ℕ) → Bounds → Type 0
IsUncanonical false message limits = ⊥
IsUncanonical true message limits = (v : Tree) × IsValueOf message limits v × (IsCanonicalOf message v → ⊥)

-- The state of `filter` before the first message.
abbrev pub first_state : FilterOrder → FilterService
first_state order = record { order = order; skipped = None; ended = None }

-- `filter` lets `message` through in the state `s`. The `text` is `frame`, and the next state `t` is `s`.
abbrev pub LetsThrough : FilterService → List ℕ → List (List ℕ) → List ℕ → FilterService → Type 0
LetsThrough s frame message text t =
    Passes s.order.canonical message s.order.limits × (text ≡ frame) × (t ≡ s)

-- `filter` does not let `message` through in the state `s`. The walk refuses `message`, or `message` is accepted but
-- not canonical, and only canonical messages are let through.
abbrev pub IsHeldBack : FilterService → List (List ℕ) → Type 0
IsHeldBack s message =
    IsUncanonical s.order.canonical message s.order.limits
    ⊎ ((r : Refusal) × IsRefusedBy tasks.List message s.order.limits r)

-- The message at the position `at` is skipped, because `IsHeldBack` holds and `keep_going` is set. Nothing is written,
-- and `t` counts the skipped message.
abbrev pub IsSkipped : FilterService → Position → List (List ℕ) → List ℕ → FilterService → Type 0
IsSkipped s at message text t =
    (s.order.keep_going ≡ true) × IsHeldBack s message × (text ≡ [])
    × (t ≡ record { order = s.order; skipped = Some (one_more s.skipped at); ended = s.ended })

-- The message at the position `at` is accepted but not canonical. It ends the run, because only canonical messages are
-- let through and `keep_going` is not set. Nothing is written, and `t` has the position `at`.
abbrev pub EndsAt : FilterService → Position → List (List ℕ) → List ℕ → FilterService → Type 0
EndsAt s at message text t =
    (s.order.keep_going ≡ false) × IsUncanonical s.order.canonical message s.order.limits × (text ≡ [])
    × (t ≡ record { order = s.order; skipped = s.skipped; ended = Some at })

-- `message` leads from the state `s` to `t` and writes `text`. `filter` lets `message` through, skips it, or ends the
-- run.
abbrev pub serves : FilterService → Position → List ℕ → List (List ℕ) → List ℕ → FilterService → Type 0
serves s at frame message text t =
    LetsThrough s frame message text t ⊎ (IsSkipped s at message text t ⊎ EndsAt s at message text t)

-- The walk refuses `message` with `r`. The refusal ends the run, because `keep_going` is not set.
abbrev pub refuses : FilterService → Position → List ℕ → List (List ℕ) → Refusal → Type 0
refuses s at frame message r = (s.order.keep_going ≡ false) × IsRefusedBy tasks.List message s.order.limits r

-- Tests whether a message that is not canonical has ended the run, so that no further message is served.
abbrev pub done : FilterService → Position → Bool
done s at = is_some s.ended
