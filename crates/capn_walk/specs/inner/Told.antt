-- The results of walks, surveys and indexes of a message, for calls that count reads and for calls that do not.
use Rattle.std.specs.Prelude.{◌≡◌, ◌≢◌, ◌-◌, ◌≤◌, ◌⊎◌, ℕ, List, length, drop, Result, IfOk, IfErr, IsOk, OnOk}
use Rattle.std.specs.Prelude.{MatchResult}
use Rattle.capn_value.specs.Tree.{Tree}
use Rattle.capn_value.specs.FirstCap.{first_cap}
use Rattle.capn_value.specs.Cost.{base, cost, height}
use Rattle.capn_target.specs.declared.target.Fault.TheVariants.{Memory}
use Rattle.capn_walk.specs.declared.entry.Entry.{Entry}
use Rattle.capn_walk.specs.declared.entry.Indexed.{Indexed}
use Rattle.capn_walk.specs.declared.survey_answer.Measured.{Measured}
use Rattle.capn_walk.specs.declared.survey_answer.Surveyed.{Surveyed}
use Rattle.capn_walk.specs.declared.walk_answer.Stopped.{Stopped}
use Rattle.capn_walk.specs.Accepted.{IsAccepted, IsValueOf, IsWalkRefused, IsBounded, paid, number_of_visits}
use Rattle.capn_walk.specs.Depth.{IsDepth}
use Rattle.capn_walk.specs.Index.{index_of, IsIndexedAs}
use Rattle.capn_walk.specs.Limits.{Bounds}
use Rattle.capn_walk.specs.Surveyed.{IsSurvey}
use Rattle.capn_walk.specs.View.{IsEntered, stepped_to_root}

-- `r` is a correct result of a walk: if `message` is accepted, the value and the totals, and if `message` is refused,
-- the stop of the walk. `r` may also have the fault `Memory`, but only if the root leads to content within the limits.
pub record IsWalkTold {W : Type 0} (message : List (List ℕ)) (limits : Bounds) (r : Result W Stopped) (tree : W → Tree)
    (price visits : W → ℕ) : Type 0 where
  pub found : IfOk r (λ w. IsValueOf message limits (tree w))
  pub pays : IfOk r (λ w. price w ≡ paid message limits)
  pub counts : IfOk r (λ w. visits w ≡ number_of_visits message limits)
  pub only : (v : Tree) → IsValueOf message limits v → MatchResult r (λ w. tree w ≡ v) (λ s. s.fault ≡ Memory)
  pub refused : IfErr r (λ s. (s.fault ≡ Memory) ⊎ IsWalkRefused message limits s.fault s.place s.paid s.visits)
  pub memory : IfErr r (λ s. s.fault ≡ Memory
      → IsEntered (stepped_to_root message (base limits.tariff) limits.depth limits.budget))
  pub bounded : MatchResult r (λ w. IsBounded limits.budget (price w) (visits w))
      (λ s. IsBounded limits.budget s.paid s.visits)
  pub thrifty : IfOk r (λ w. cost (base limits.tariff) (tree w) ≤ price w)
  pub low : IfOk r (λ w. height (tree w) ≤ limits.depth)

-- `r` is a correct result of a survey: if `message` is accepted, the totals, and if `message` is refused, the stop of
-- the walk. The fault is never `Memory`.
pub record IsSurveyTold (message : List (List ℕ)) (limits : Bounds) (r : Result Surveyed Stopped) : Type 0 where
  pub found : IfOk r (λ s. IsSurvey message limits s)
  pub only : (v : Tree) → IsValueOf message limits v
      → MatchResult r (λ s. s.capability ≡ first_cap v) (λ s. s.fault ≡ Memory)
  pub refused : IfErr r (λ s. (s.fault ≡ Memory) ⊎ IsWalkRefused message limits s.fault s.place s.paid s.visits)
  pub no_memory : IfErr r (λ s. s.fault ≢ Memory)
  pub bounded : MatchResult r (λ s. IsBounded limits.budget s.paid s.visits)
      (λ s. IsBounded limits.budget s.paid s.visits)

-- `r` is a correct result of a survey that also finds the least depth limit: if `message` is accepted, the totals and
-- that limit, and if `message` is refused, the stop of the walk. The fault is never `Memory`.
pub record IsDepthTold (message : List (List ℕ)) (limits : Bounds) (r : Result Measured Stopped) : Type 0 where
  pub found : IfOk r (λ m. IsSurvey message limits m.survey)
  pub depth : IfOk r (λ m. IsDepth message limits m.depth)
  pub within : IfOk r (λ m. m.depth ≤ limits.depth)
  pub only : (v : Tree) → IsValueOf message limits v
      → MatchResult r (λ m. m.survey.capability ≡ first_cap v) (λ s. s.fault ≡ Memory)
  pub refused : IfErr r (λ s. (s.fault ≡ Memory) ⊎ IsWalkRefused message limits s.fault s.place s.paid s.visits)
  pub no_memory : IfErr r (λ s. s.fault ≢ Memory)
  pub bounded : MatchResult r (λ m. IsBounded limits.budget m.survey.paid m.survey.visits)
      (λ s. IsBounded limits.budget s.paid s.visits)

-- `r` is a correct result of writing an index to a room: if `message` is accepted, the totals, and if `message` is
-- refused, the stop of the walk. If `r` is `Ok`, `new` has as much of the index as fits. If `r` is an error, `new` is
-- `old`, except for the entries of the visits before the stop.
pub record IsIndexTold {A : Type 0} (form : Entry → A) (message : List (List ℕ)) (limits : Bounds) (old new : List A)
    (r : Result Indexed Stopped) : Type 0 where
  pub found : IfOk r (λ t. IsIndexedAs form message limits old new t)
  pub only : IsAccepted message limits → IsOk r
  pub refused : IfErr r (λ s. IsWalkRefused message limits s.fault s.place s.paid s.visits)
  pub kept : IfErr r (λ s. drop (s.visits - 1) new ≡ drop (s.visits - 1) old)
  pub bounded : MatchResult r (λ t. IsBounded limits.budget t.paid t.visits)
      (λ s. IsBounded limits.budget s.paid s.visits)

-- `r` is a correct result of making an index in a new vector: if `message` is accepted, the entries and the words paid,
-- and if `message` is refused, the stop of the walk. `r` may also have the fault `Memory`, but only if `message` is
-- accepted.
pub record IsIndexMade {X : Type 0} (message : List (List ℕ)) (limits : Bounds) (r : Result X Stopped)
    (entries : X → List Entry) (price : X → ℕ) : Type 0 where
  pub accepted : OnOk r (IsAccepted message limits)
  pub found : IfOk r (λ x. entries x ≡ index_of message limits)
  pub pays : IfOk r (λ x. price x ≡ paid message limits)
  pub only : (v : Tree) → IsValueOf message limits v → IfErr r (λ s. s.fault ≡ Memory)
  pub refused : IfErr r (λ s. (s.fault ≡ Memory) ⊎ IsWalkRefused message limits s.fault s.place s.paid s.visits)
  pub no_memory : IfErr r (λ s. s.fault ≡ Memory → IsAccepted message limits)
  pub bounded : MatchResult r (λ x. IsBounded limits.budget (price x) (length (entries x)))
      (λ s. IsBounded limits.budget s.paid s.visits)
