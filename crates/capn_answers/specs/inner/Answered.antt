-- The results of the private functions for one message.
use Rattle.std.specs.Prelude.{◌≡◌, ℕ, List, Result, IfOk, IfErr}
use Rattle.std.specs.Prelude.{IsErrOf, MatchResult}
use Rattle.capn_walk.specs.Accepted.{IsBounded, IsWalkRefused}
use Rattle.capn_walk.specs.Limits.{Bounds}
use Rattle.capn_walk.specs.Surveyed.{IsSurvey}
use Rattle.capn_walk.specs.declared.walk_answer.Stopped.{Stopped}
use Rattle.capn_path.specs.Paths.{IsRefusedAt}
use Rattle.capn_path.specs.declared.refusal.Refused.{Refused}
use Rattle.capn_canon.specs.Refusal.{IsPaidWithin, IsUnaccepted}
use Rattle.capn_canon.specs.declared.refusal.Refusal.{Refusal}
use Rattle.capn_canon.specs.declared.refusal.Refusal.TheVariants as refusals
use Rattle.capn_mismatch.specs.Mismatches.{HasMismatch, IsMismatch}
use Rattle.capn_answers.specs.Walked.{IsWalkedWithin}
use Rattle.capn_answers.specs.declared.mismatch_input.SurveyedMismatch.{SurveyedMismatch}
use Rattle.capn_answers.specs.declared.walked.Walked.{Walked}
use Rattle.capn_answers.specs.declared.walked.Walked.TheVariants as walks

-- `Accepted` has the survey of the accepted `message`. `Refused` has the stop of the walk of `message`, and the path to
-- the slot at which the walk stops.
abbrev pub IsWalked : {A : Type 0} → List (List ℕ) → Bounds → Walked A → Type 0
IsWalked message limits (walks.Accepted s) = IsSurvey message limits s
IsWalked message limits (walks.Refused f) = IsRefusedAt message limits f.stopped f.path.items

-- If `r` is `Ok`, it has the outcome of the walk of `message`, and the walk pays at most the budget. If `r` is an
-- `Err`, it is `Memory`, and the walk is refused.
pub record IsWalkTold {A : Type 0} (message : List (List ℕ)) (limits : Bounds) (r : Result (Walked A) Refusal)
    : Type 0 where
  pub found : IfOk r (λ w. IsWalked message limits w)
  pub bounded : IfOk r (λ w. IsWalkedWithin limits.budget w)
  pub memory : IfErr r (λ e. (e ≡ refusals.Memory)
      × ((s : Stopped) × IsWalkRefused message limits s.fault s.place s.paid s.visits))

-- If `r` is `Ok`, it has the mismatch and the survey of `message`. If `r` is an `Err`, its refusal is true of `message`
-- (`IsUnaccepted`), and is `Memory` only if `message` has one segment and isn't canonical. The number of words paid, in
-- the survey or in a refusal by the walk, is at most the budget.
pub record IsMismatchSurveyed {A : Type 0} (message : List (List ℕ)) (limits : Bounds)
    (r : Result (SurveyedMismatch A) Refusal) : Type 0 where
  pub found : IfOk r (λ d. IsMismatch message limits d.mismatch)
  pub surveyed : IfOk r (λ d. IsSurvey message limits d.survey)
  pub refused : IfErr r (λ e. IsUnaccepted message limits e)
  pub memory : IsErrOf r refusals.Memory → HasMismatch message limits
  pub bounded : MatchResult r (λ d. IsBounded limits.budget d.survey.paid d.survey.visits)
      (λ e. IsPaidWithin limits.budget e)
