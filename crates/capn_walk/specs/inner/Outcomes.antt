-- The results of the inner functions of surveys and walks: the findings, or an error.
use Rattle.std.specs.Prelude.{◌≡◌, ◌≢◌, ℕ, ◌-◌, ◌*◌, ◌<◌, ◌≤◌, List, ◌∷◌, Result, Ok, Err}
use Rattle.capn_words.specs.declared.space.Place.{Place}
use Rattle.capn_value.specs.Tree.{count, count_rows}
use Rattle.capn_value.specs.TreeOf.{tree_of, trees_of, rows_of}
use Rattle.capn_walk.specs.declared.found.Found.{Found}
use Rattle.capn_walk.specs.declared.found.FoundRows.{FoundRows}
use Rattle.capn_walk.specs.declared.found.FoundSlots.{FoundSlots}
use Rattle.capn_target.specs.declared.target.Shape.{Shape}
use Rattle.capn_target.specs.declared.target.Fault.{Fault}
use Rattle.capn_target.specs.declared.target.Fault.TheVariants as faults
use Rattle.capn_walk.specs.declared.survey_answer.Measured.{Measured}
use Rattle.capn_walk.specs.declared.survey_visit.Visited.{Visited}
use Rattle.capn_walk.specs.declared.walk_answer.Stopped.{Stopped}
use Rattle.capn_walk.specs.ValueAt.{IsAt, AreAt, RowsAt, IsInside}
use Rattle.capn_walk.specs.inner.SlotsLeft.{Lies, owed, places_of}
use Rattle.capn_walk.specs.inner.Reach.{below_of}
use Rattle.capn_target.specs.Shapes.{slot_count}
use Rattle.capn_walk.specs.Surveyed.{cap_of, first_cap_of}
use Rattle.capn_target.specs.Target.{target}
use Rattle.capn_walk.specs.inner.Verdict.{Gives, Refuses, judge, refused}
use Rattle.capn_walk.specs.Visits.{Visit, pays, places, row_places, slots, visits, visits_of}

-- ---- a survey

module _ (message : List (List ℕ)) (base depth left : ℕ) where
  -- the visit of the slot at `at` is paid, and `v` has the visit's price, the capability that the slot names, and the
  -- slots below the slot at `at`
  pub record IsVisit (at : Place) (v : Visited) : Type 0 where
    pub visits : visits message base depth at ≡ pays at v.price ∷ visits_of message base (depth - 1) (places_of v.below)
    pub price : v.price ≤ left
    pub capability : cap_of (target message at) ≡ v.capability
    pub places : below_of (target message at) ≡ places_of v.below
    pub below : Lies message v.below
    pub deep : 0 < owed v.below → 0 < depth
    pub owed : owed v.below ≤ v.price

  -- the visit of the slot at `at` is refused with the fault `e`, which is not `Memory`
  pub record IsRefusal (at : Place) (e : Fault) : Type 0 where
    pub refused : judge left (visits message base depth at) ≡ refused e at 0 1
    pub memory : e ≢ faults.Memory

  -- a correct result of one visit of the slot at `at`: the findings of the visit, or the fault
  abbrev pub Visits : Place → Result Visited Fault → Type 0
  Visits at (Ok v) = IsVisit at v
  Visits at (Err e) = IsRefusal at e

-- a correct result of a survey of `n` slots and all slots below them, with the visits `vs`: the number of words paid,
-- the number of visits and the first capability, or an error
abbrev pub SurveysAs : List (List ℕ) → ℕ → ℕ → List Visit → Result Measured Stopped → Type 0
SurveysAs message left n vs (Ok m) =
    Gives left vs n m.survey.paid m.survey.visits × (first_cap_of message vs ≡ m.survey.capability)
SurveysAs message left n vs (Err s) = Refuses left vs n s

-- ---- a walk

module _ {A : Type 0} (message : List (List ℕ)) (base depth left : ℕ) where
  -- a correct result for the slot at `at`: the slot's value, or an error
  abbrev pub Walks : Place → Result (Found A) Stopped → Type 0
  Walks at (Ok f) = Gives left (visits message base depth at) 1 f.paid f.visits × IsAt message at (tree_of f.value)
  Walks at (Err s) = Refuses left (visits message base depth at) 1 s

  -- a correct result for an object of `shape` whose own price is paid: the value of content at `start`, or an error
  abbrev pub WalksObject : Shape → Place → Result (Found A) Stopped → Type 0
  WalksObject shape start (Ok f) =
      Gives left (visits_of message base depth (slots start.segment start.word shape))
      (slot_count shape) f.paid f.visits
      × IsInside message shape start.segment start.word (tree_of f.value)
  WalksObject shape start (Err s) =
      Refuses left (visits_of message base depth (slots start.segment start.word shape)) (slot_count shape) s

  -- a correct result for `n` consecutive slots from word `start` of `segment` on: the slots' values, or an error
  abbrev pub WalksSlots : ℕ → ℕ → ℕ → Result (FoundSlots A) Stopped → Type 0
  WalksSlots segment start n (Ok f) =
      Gives left (visits_of message base depth (places segment start n)) n f.paid f.visits
      × AreAt message segment start (trees_of f.items) × (count (trees_of f.items) ≡ n)
  WalksSlots segment start n (Err s) = Refuses left (visits_of message base depth (places segment start n)) n s

  -- a correct result for `n` rows from `start` on, of `a` words and `b` slots each: the rows' bodies, or an error
  abbrev pub WalksRows : Place → ℕ → ℕ → ℕ → Result (FoundRows A) Stopped → Type 0
  WalksRows start a b n (Ok f) =
      Gives left (visits_of message base depth (row_places start.segment start.word a b n)) (n * b) f.paid f.visits
      × RowsAt message a b start.segment start.word (rows_of f.rows) × (count_rows (rows_of f.rows) ≡ n)
  WalksRows start a b n (Err s) =
      Refuses left (visits_of message base depth (row_places start.segment start.word a b n)) (n * b) s
