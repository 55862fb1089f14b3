-- The verdict on a list of visits, as a function, for the walk's inner functions. The verdict agrees with `IsWithin`
-- and `IsStop`.
use Rattle.std.specs.Prelude.{◌≡◌, ◌⊎◌, ℕ, ◌+◌, ◌-◌, ◌≤◌, ◌==◌, nat_lt, List, [], ◌∷◌, length, if◌then◌else◌}
use Rattle.capn_words.specs.Message.{segment_at}
use Rattle.capn_words.specs.declared.space.Place.{Place}
use Rattle.capn_target.specs.declared.target.Fault.{Fault}
use Rattle.capn_target.specs.declared.target.Fault.TheVariants as faults
use Rattle.capn_walk.specs.declared.walk_answer.Stopped.{Stopped}
use Rattle.capn_walk.specs.Visits.{Visit, pays, fails}
use Rattle.capn_walk.specs.Accepted.{root, root_visits}

-- `accepted` has the number of words paid and the number of visits. `refused` has the fault, the place, the number of
-- words paid before the refused visit, and the number of that visit.
pub data Verdict : Type 0 where
  accepted : ℕ → ℕ → Verdict
  refused : Fault → Place → ℕ → ℕ → Verdict

-- the given verdict with `k` earlier visits added, for which `p` words were paid
abbrev pub after : ℕ → ℕ → Verdict → Verdict
after p k (accepted q j) = accepted (p + q) (k + j)
after p k (refused e at q j) = refused e at (p + q) (k + j)

-- the verdict on the visits, if `budget` words are left to pay
abbrev pub judge : ℕ → List Visit → Verdict
judge budget [] = accepted 0 0
judge budget (fails at e ∷ vs) = refused e at 0 1
judge budget (pays at n ∷ vs) =
    if nat_lt budget n then refused faults.OverBudget at 0 1 else after n 1 (judge (budget - n) vs)

-- the verdict on all visits from the root of `message` on, with the fault `NoRoot` if segment 0 has no word
unfoldable pub verdict : List (List ℕ) → ℕ → ℕ → ℕ → Verdict
verdict message base budget depth =
    if length (segment_at message 0) == 0
    then refused faults.NoRoot root 0 0
    else judge budget (root_visits message base depth)

-- the visits `vs` of `n` slots and all slots below them are accepted with `left` words left to pay. The sum of the
-- prices is `paid`, and the number of visits is `visits`.
pub record Gives (left : ℕ) (vs : List Visit) (n paid visits : ℕ) : Type 0 where
  pub is : judge left vs ≡ accepted paid visits
  pub within : paid ≤ left
  pub few : visits ≤ paid + n

-- the visits `vs` of `n` slots and all slots below them are refused with `s`, or an allocation was refused
pub record Refuses (left : ℕ) (vs : List Visit) (n : ℕ) (s : Stopped) : Type 0 where
  pub is : (s.fault ≡ faults.Memory) ⊎ (judge left vs ≡ refused s.fault s.place s.paid s.visits)
  pub within : s.paid ≤ left
  pub few : s.visits ≤ s.paid + n
