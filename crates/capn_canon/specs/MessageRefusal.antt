-- The reasons why a message has no canonical bytes, or why its canonical bytes are not written into a buffer. (Our
-- own.)
use Rattle.std.specs.Prelude.{◌≡◌, ℕ, ◌≤◌, List, Some, ⊤}
use Rattle.capn_value.specs.Tree.{Tree}
use Rattle.capn_value.specs.FirstCap.{first_cap}
use Rattle.capn_walk.specs.Accepted.{IsValueOf, IsWalkRefused, IsBounded}
use Rattle.capn_walk.specs.Limits.{Bounds}
use Rattle.capn_canon.specs.declared.message_refusal.MessageRefusal.{MessageRefusal}
use Rattle.capn_canon.specs.declared.message_refusal.MessageRefusal.TheVariants as messages
use Rattle.capn_canon.specs.declared.message_refusal.IntoRefusal.{IntoRefusal}
use Rattle.capn_canon.specs.declared.message_refusal.IntoRefusal.TheVariants as intos

-- `message` has no canonical bytes for the given reason. For `Walk`, the walk stops as `s` says. For `Capability`,
-- `message` is accepted, and `k` is the index of the first capability of its value.
abbrev pub HasNoBytes : List (List ℕ) → Bounds → MessageRefusal → Type 0
HasNoBytes message limits (messages.Walk s) = IsWalkRefused message limits s.fault s.place s.paid s.visits
HasNoBytes message limits (messages.Capability k) = (v : Tree) × IsValueOf message limits v × (first_cap v ≡ Some k)

-- If the refusal is `Walk`, its `paid` is at most `budget`, and its `visits` are at most `paid + 1`.
abbrev pub IsMessagePaidWithin : ℕ → MessageRefusal → Type 0
IsMessagePaidWithin budget (messages.Walk s) = IsBounded budget s.paid s.visits
IsMessagePaidWithin budget (messages.Capability k) = ⊤

-- The number of words paid, in a `Walk` or a `NoRoom`, is at most `budget`. If the refusal is `Walk`, its `visits` are
-- at most `paid + 1`.
abbrev pub IsIntoPaidWithin : ℕ → IntoRefusal → Type 0
IsIntoPaidWithin budget (intos.Walk s) = IsBounded budget s.paid s.visits
IsIntoPaidWithin budget (intos.NoRoom n p) = p ≤ budget
IsIntoPaidWithin budget (intos.Capability k) = ⊤
