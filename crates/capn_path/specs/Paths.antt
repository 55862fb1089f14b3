-- The path to a slot: the numbers that lead to the slot from another slot. The definitions also count the visits that a
-- walk makes between the two slots.
use Rattle.std.specs.Prelude.{◌≡◌, ◌⊎◌, ℕ, zero, suc, ◌+◌, ◌-◌, ◌*◌, ◌<◌, ◌≤◌, List, [], ◌∷◌, ◌++◌, length, Ok}
use Rattle.capn_words.specs.Message.{segment_at}
use Rattle.capn_words.specs.declared.space.Place.{Place}
use Rattle.capn_value.specs.Cost.{base}
use Rattle.capn_target.specs.declared.target.Target.{Target}
use Rattle.capn_target.specs.declared.target.Target.TheVariants as targets
use Rattle.capn_target.specs.declared.target.Shape.TheVariants as shapes
use Rattle.capn_target.specs.Target.{target}
use Rattle.capn_walk.specs.Visits.{Visit, visits_of}
use Rattle.capn_walk.specs.View.{slots_below}
use Rattle.capn_walk.specs.Index.{place_of}
use Rattle.capn_walk.specs.Accepted.{root, visits_within, number_of_visits, IsWalkRefused}
use Rattle.capn_walk.specs.Limits.{Bounds}
use Rattle.capn_walk.specs.declared.walk_answer.Stopped.{Stopped}

-- the numbers lead to slot `k` of an object. In a list of structs, `k` counts the slots of all rows, and the numbers
-- are a row and a slot of that row. In any other object the only number is `k`.
abbrev pub AreNumbersOf : Target → ℕ → List ℕ → Type 0
AreNumbersOf (targets.Content s start (shapes.Rows n a b span) pads) k (row ∷ slot ∷ []) =
    (slot < b) × (k ≡ row * b + slot)
AreNumbersOf (targets.Content s start (shapes.Rows n a b span) pads) k numbers = ⊥
AreNumbersOf found k (slot ∷ []) = k ≡ slot
AreNumbersOf found k numbers = ⊥

-- `path` leads from the slot at `from` to the slot at `to`, by way of `slot`, a slot of the object that the slot at
-- `from` names. The numbers `rest` lead from `slot` to the slot at `to`, after `later` visits. `between` counts the
-- visit at `from`, the visits of the slots `before` and of all slots below them, and the `later` visits.
pub record Descends (message : List (List ℕ)) (base depth : ℕ) (leads : Place → List ℕ → Place → ℕ → Type 0)
    (from : Place) (path : List ℕ) (to : Place) (between : ℕ) : Type 0 where
  pub found : Target
  pub names : target message from ≡ Ok found
  pub before : List Place
  pub slot : Place
  pub behind : List Place
  pub slots : slots_below found ≡ before ++ slot ∷ behind
  pub numbers : List ℕ
  pub are : AreNumbersOf found (length before) numbers
  pub rest : List ℕ
  pub is : path ≡ numbers ++ rest
  pub later : ℕ
  pub onward : leads slot rest to later
  pub count : between ≡ 1 + length (visits_of message base depth before) + later

module _ (message : List (List ℕ)) (base : ℕ) where
  -- `path` leads from the slot at `from` to the slot at `to`. `between` is the number of visits from the visit at
  -- `from` up to the last visit before the visit at `to`. The walk is at most `depth` objects deep.
  abbrev pub Leads : ℕ → Place → List ℕ → Place → ℕ → Type 0
  Leads zero from [] to between = (to ≡ from) × (between ≡ 0)
  Leads zero from (i ∷ path) to between = ⊥
  Leads (suc depth) from [] to between = (to ≡ from) × (between ≡ 0)
  Leads (suc depth) from (i ∷ path) to between =
      Descends message base depth (Leads depth) from (i ∷ path) to between

-- `path` leads from the root to the slot at `place`, which the walk of `message` visits after `number` other visits
abbrev pub IsPathTo : List (List ℕ) → Bounds → ℕ → List ℕ → Place → Type 0
IsPathTo message limits number path place = Leads message (base limits.tariff) limits.depth root path place number

-- the walk of `message` visits the slot at `at` after `number` other visits, and `path` leads from the root to this
-- slot
pub record IsVisited (message : List (List ℕ)) (limits : Bounds) (number : ℕ) (path : List ℕ)
    (at : Place) : Type 0 where
  pub before : List Visit
  pub here : Visit
  pub behind : List Visit
  pub is : visits_within message limits ≡ before ++ here ∷ behind
  pub count : length before ≡ number
  pub place : place_of here ≡ at
  pub leads : IsPathTo message limits number path at

-- `message` has no root, or its walk makes at most `number` visits
abbrev pub IsNotVisited : List (List ℕ) → Bounds → ℕ → Type 0
IsNotVisited message limits number =
    (length (segment_at message 0) ≡ 0) ⊎ (number_of_visits message limits ≤ number)

-- `message` is refused, and `path` leads to the slot at which the walk stopped, or is empty if there is no visit
pub record IsRefusedAt (message : List (List ℕ)) (limits : Bounds) (stopped : Stopped) (path : List ℕ) : Type 0 where
  pub refused : IsWalkRefused message limits stopped.fault stopped.place stopped.paid stopped.visits
  pub leads : 0 < stopped.visits → IsPathTo message limits (stopped.visits - 1) path stopped.place
  pub none : stopped.visits ≡ 0 → path ≡ []
