-- The messages that are accepted within limits, with their values and prices, and the errors of all other messages.
-- (Page: security considerations; the definitions are our own.)
use Rattle.std.specs.Prelude.{◌≡◌, ℕ, ◌+◌, ◌<◌, ◌≤◌, List, [], ◌∷◌, ◌++◌, length, Bool, true, false, Result, Ok, Err}
use Rattle.std.specs.Prelude.{if◌then◌else◌, ⊤, ◌⊎◌}
use Rattle.capn_words.specs.declared.space.Place.{Place}
use Rattle.capn_target.specs.declared.target.Target.{Target}
use Rattle.capn_target.specs.declared.target.Target.TheVariants as targets
use Rattle.capn_target.specs.declared.target.Fault.{Fault}
use Rattle.capn_target.specs.declared.target.Fault.TheVariants as faults
use Rattle.capn_target.specs.Target.{target}
use Rattle.capn_walk.specs.Visits.{Visit, pays, fails, visits}
use Rattle.capn_words.specs.Message.{segment_at}
use Rattle.capn_value.specs.Cost.{base}
use Rattle.capn_value.specs.Tree.{Tree}
use Rattle.capn_walk.specs.Limits.{Bounds}
use Rattle.capn_walk.specs.ValueAt.{IsAt}

-- ---- the visits that are accepted within a budget, and the visit that ends a walk. (Page: security considerations;
-- our own.)

-- the sum of the prices of the visits, where a fault has no price
abbrev pub paid_of : List Visit → ℕ
paid_of [] = 0
paid_of (pays at n ∷ vs) = n + paid_of vs
paid_of (fails at e ∷ vs) = paid_of vs

-- no visit of the list is a fault
abbrev pub AllPay : List Visit → Type 0
AllPay [] = ⊤
AllPay (pays at n ∷ vs) = AllPay vs
AllPay (fails at e ∷ vs) = ⊥

-- no visit of `vs` is a fault, and the prices of `vs` sum to at most `budget`
pub record IsWithin (budget : ℕ) (vs : List Visit) : Type 0 where
  pub all : AllPay vs
  pub paid : paid_of vs ≤ budget

-- a walk that has paid `before` words stops with `fault` at the given visit, which is of the slot at `at`. Either the
-- visit fails with `fault`, or `fault` is `OverBudget` and the sum of `before` and the visit's price is above `budget`.
abbrev pub IsStopHere : (budget before : ℕ) → Visit → Place → Fault → Type 0
IsStopHere budget before (fails p e) at fault = (p ≡ at) × (e ≡ fault)
IsStopHere budget before (pays p n) at fault = (p ≡ at) × (faults.OverBudget ≡ fault) × (budget < before + n)

-- a walk with the visits `vs` stops with `fault` at the visit `stop` of the slot at `at`, after visits within `budget`.
-- `paid` is the sum of the prices of the visits before `stop`. `visits` is the number of `stop`, counted from 1.
pub record IsStop (budget : ℕ) (vs : List Visit) (fault : Fault) (at : Place) (paid visits : ℕ) : Type 0 where
  pub before : List Visit
  pub stop : Visit
  pub after : List Visit
  pub split : vs ≡ before ++ stop ∷ after
  pub within : IsWithin budget before
  pub ends : IsStopHere budget (paid_of before) stop at fault
  pub sum : paid ≡ paid_of before
  pub number : visits ≡ 1 + length before

-- the place of the root pointer
abbrev pub root : Place
root = record { segment = 0; word = 0 }

-- true for each target that the root pointer may have, and false for a capability (Our own.)
abbrev pub may_be_root : Target → Bool
may_be_root (targets.Cap index) = false
may_be_root _ = true

module _ (message : List (List ℕ)) (base : ℕ) where
  -- the visits of a walk from the root, given the target of the root pointer and the visits `vs` of the root's slot. If
  -- the target is a capability, the only visit is the fault `RootKind`.
  abbrev pub visits_at_root : Result Target Fault → List Visit → List Visit
  visits_at_root (Ok found) vs = if may_be_root found then vs else fails root faults.RootKind ∷ []
  visits_at_root (Err e) vs = vs

  -- the visits of a walk from the root, at most `depth` objects deep
  unfoldable pub root_visits : ℕ → List Visit
  root_visits depth = visits_at_root (target message root) (visits message base depth root)

-- ---- the messages that are accepted within limits, their values and prices, and the errors of all other messages

-- the visits of the walk over `message`, priced by the tariff of `limits`, and at most `limits.depth` objects deep
abbrev pub visits_within : List (List ℕ) → Bounds → List Visit
visits_within message limits = root_visits message (base limits.tariff) limits.depth

-- segment 0 of `message` has a word, no visit of the walk is a fault, and the prices sum to at most the budget
pub record IsAccepted (message : List (List ℕ)) (limits : Bounds) : Type 0 where
  pub some : 0 < length (segment_at message 0)
  pub within : IsWithin limits.budget (visits_within message limits)

-- the number of words that the walk over `message` pays, if `message` is accepted
abbrev pub paid : List (List ℕ) → Bounds → ℕ
paid message limits = paid_of (visits_within message limits)

-- the number of visits that the walk over `message` makes, if `message` is accepted
abbrev pub number_of_visits : List (List ℕ) → Bounds → ℕ
number_of_visits message limits = length (visits_within message limits)

-- `message` is accepted within `limits`, and `v` is the value at its root
pub record IsValueOf (message : List (List ℕ)) (limits : Bounds) (v : Tree) : Type 0 where
  pub accepted : IsAccepted message limits
  pub is : IsAt message root v

-- `message` is refused with `fault`. If segment 0 has no word, `fault` is `NoRoot`, `at` is `root`, and `paid` and
-- `visits` are 0. Otherwise the walk stops at visit number `visits`, of the slot at `at`, after `paid` words are paid.
abbrev pub IsWalkRefused : List (List ℕ) → Bounds → Fault → Place → (paid visits : ℕ) → Type 0
IsWalkRefused message limits fault at paid visits =
    ((length (segment_at message 0) ≡ 0) × (fault ≡ faults.NoRoot) × (at ≡ root) × (paid ≡ 0) × (visits ≡ 0))
    ⊎ ((0 < length (segment_at message 0)) × IsStop limits.budget (visits_within message limits) fault at paid visits)

-- ---- read to here for the theorem

-- `paid` is at most `budget`, and `visits` is at most `paid + 1`
pub record IsBounded (budget paid visits : ℕ) : Type 0 where
  pub within : paid ≤ budget
  pub few : visits ≤ paid + 1
