-- Bytes that are read as a message have the mismatch and the survey of that message. (For `mismatch_and_survey_in`.)
use Rattle.std.proofs.Common.{◌≡◌, ℕ, ◌*◌, ◌≤◌, inl, inr, List, length, subst, Result, Ok, Err, IfOk, IfErr}
use Rattle.std.proofs.Common.{IsErrOf, MatchResult}
use Rattle.std.specs.Bool.{⊤}
use Rattle.capn_value.specs.Tree.{Tree}
use Rattle.capn_walk.specs.Accepted.{IsBounded}
use Rattle.capn_walk.specs.Limits.{Bounds}
use Rattle.capn_canon.specs.Answered.{IsAnswered, IsRefusedReading}
use Rattle.capn_canon.specs.Denotes.{Denotes}
use Rattle.capn_canon.specs.Refusal.{IsPaidWithin, IsUnacceptedIn}
use Rattle.capn_canon.specs.SurveyedBytes.{Surveys}
use Rattle.capn_canon.specs.declared.form.Form.{Form}
use Rattle.capn_canon.specs.declared.refusal.Refusal.{Refusal}
use Rattle.capn_canon.specs.declared.refusal.Refusal.TheVariants as refusals
use Rattle.capn_canon.proofs.shared.NotUnaccepted.{not_unaccepted, unaccepted_message}
use Rattle.capn_answers.specs.Mismatches.{IsMismatchIn, MayNeedMismatch, path_of}
use Rattle.capn_answers.specs.declared.mismatch_input.SurveyedMismatch.{SurveyedMismatch}
use Rattle.capn_answers.specs.inner.Answered.{IsMismatchSurveyed}
use Rattle.capn_answers.proofs.shared.Reading.{reading_unaccepted, reading_wanted, reading_within}
use Rattle.capn_answers.proofs.PathLengths.{mismatch_short}

module _ {A : Type 0} (form : Form) (bs : List ℕ) (limits : Bounds) where
  abbrev AreTold : Result (SurveyedMismatch A) Refusal → Type 0
  AreTold r = IsAnswered form bs limits (λ m l x. IsMismatchSurveyed m l x) r

  pub both_found : (r : Result (SurveyedMismatch A) Refusal) → AreTold r
      → IfOk r (λ d. IsMismatchIn form bs limits d.mismatch)
  both_found (Ok d) (inl (m, is, h)) = record { message = m; reads = is; is = h.found }
  both_found (Ok d) (inr (e, is, h)) = absurd cc
  both_found (Err e) told = tt

  pub both_surveyed : (r : Result (SurveyedMismatch A) Refusal) → AreTold r
      → IfOk r (λ d. Surveys form bs limits d.survey)
  both_surveyed (Ok d) (inl (m, is, h)) = record { message = m; reads = is; survey = h.surveyed }
  both_surveyed (Ok d) (inr (e, is, h)) = absurd cc
  both_surveyed (Err e) told = tt

  pub both_few : (r : Result (SurveyedMismatch A) Refusal) → AreTold r
      → IfOk r (λ d. length (path_of d.mismatch) ≤ 2 * limits.depth)
  both_few (Ok d) (inl (m, is, h)) = mismatch_short m limits d.mismatch h.found
  both_few (Ok d) (inr (e, is, h)) = absurd cc
  both_few (Err e) told = tt

  pub both_refused : (r : Result (SurveyedMismatch A) Refusal) → AreTold r
      → IfErr r (λ e. IsUnacceptedIn form bs limits e)
  both_refused (Err e) (inl (m, is, h)) = unaccepted_message form bs limits m e is h.refused
  both_refused (Err e) (inr (f, is, h)) =
      let same : f ≡ e = cc in
      reading_unaccepted form bs limits e (subst (λ (x : Refusal). IsRefusedReading form bs limits x) same h)
  both_refused (Ok d) told = tt

  pub both_only : (r : Result (SurveyedMismatch A) Refusal) → AreTold r → (v : Tree) → Denotes form bs limits v
      → MatchResult r (λ d. ⊤) (λ e. e ≡ refusals.Memory)
  both_only (Ok d) told v denotes = tt
  both_only (Err e) told v denotes = not_unaccepted form bs limits v e denotes (both_refused (Err e) told)

  pub both_wanted : (r : Result (SurveyedMismatch A) Refusal) → AreTold r → IsErrOf r refusals.Memory
      → MayNeedMismatch form bs limits
  both_wanted r (inl (m, is, h)) w = inr (record { message = m; reads = is; mismatched = h.memory w })
  both_wanted r (inr (e, is, h)) w = inl (reading_wanted form bs limits r e is h w)

  pub both_bounded : (r : Result (SurveyedMismatch A) Refusal) → AreTold r
      → MatchResult r (λ d. IsBounded limits.budget d.survey.paid d.survey.visits) (λ e. IsPaidWithin limits.budget e)
  both_bounded (Ok d) (inl (m, is, h)) = h.bounded
  both_bounded (Ok d) (inr (e, is, h)) = absurd cc
  both_bounded (Err e) (inl (m, is, h)) = h.bounded
  both_bounded (Err e) (inr (f, is, h)) =
      let same : f ≡ e = cc in
      reading_within form bs limits e (subst (λ (x : Refusal). IsRefusedReading form bs limits x) same h)
