-- The results of the survey of a message of one segment, with or without a count of its reads, and of the test whether
-- it is canonical.
use Rattle.std.specs.Prelude.{◌≡◌, ◌≢◌, ◌⊎◌, ◌↔◌, ℕ, Bool, IsTrue, List, [], ◌∷◌, None, Result, Ok, Err}
use Rattle.std.specs.Prelude.{IfOk, IfErr, IsErrAnd, MatchOption, MatchResult}
use Rattle.capn_words.specs.Message.{bytes, segment_at}
use Rattle.capn_value.specs.Tree.{Tree}
use Rattle.capn_value.specs.FirstCap.{first_cap}
use Rattle.capn_target.specs.declared.target.Fault.TheVariants.{Memory}
use Rattle.capn_walk.specs.declared.walk_answer.Stopped.{Stopped}
use Rattle.capn_walk.specs.Accepted.{IsValueOf, IsWalkRefused, IsBounded}
use Rattle.capn_walk.specs.Limits.{Bounds}
use Rattle.capn_canon.specs.declared.surveyed_bare.SurveyedBare.{SurveyedBare}
use Rattle.capn_layout.specs.Layout.{canon}
use Rattle.capn_canon.specs.declared.refusal.Refusal.{Refusal}
use Rattle.capn_canon.specs.declared.refusal.Refusal.TheVariants as refusals
use Rattle.capn_canon.specs.BareVerdict.{IsBareSurvey}
use Rattle.capn_canon.specs.Refusal.{IsPaidWithin, IsRefusedMessage}
use Rattle.capn_canon.specs.RefusalOf.{IsOfWalk}

-- If `r` is `Ok`, it is the survey of the first segment of `message`. If `r` is an `Err`, it is the first stop of the
-- walk of `message`, and its fault is not `Memory`. In both cases `paid` is at most `limits.budget`.
pub record IsBareTold (message : List (List ℕ)) (limits : Bounds) (r : Result SurveyedBare Stopped) : Type 0 where
  pub found : IfOk r (λ c. IsBareSurvey (segment_at message 0) limits c)
  pub only : (v : Tree) → IsValueOf message limits v
      → MatchResult r (λ c. c.capability ≡ first_cap v) (λ s. s.fault ≡ Memory)
  pub refused : IfErr r (λ s. (s.fault ≡ Memory) ⊎ IsWalkRefused message limits s.fault s.place s.paid s.visits)
  pub no_memory : IfErr r (λ s. s.fault ≢ Memory)
  pub bounded : MatchResult r (λ c. IsBounded limits.budget c.paid c.visits)
      (λ s. IsBounded limits.budget s.paid s.visits)

-- `r` is the verdict of the survey `told`. If `told` is `Ok` and has a capability, `r` is the refusal `Capability`. If
-- `told` is `Ok` and has none, `r` says whether the message is canonical. If `told` is a stop, `r` is its refusal.
abbrev pub IsVerdictOf : Result SurveyedBare Stopped → Result Bool Refusal → Type 0
IsVerdictOf (Ok c) r =
    MatchOption c.capability (r ≡ Ok c.is_canonical) (λ k. r ≡ Err (refusals.Capability k))
IsVerdictOf (Err s) r = IsErrAnd r (IsOfWalk s)

-- If `r` is `Ok(yes)`, the message of the one segment `words` is accepted, and its value has no capability. `yes` is
-- true if and only if the bytes of `words` are the canonical bytes of that value. If `r` is an `Err`, its refusal is
-- true of that message, and is not `Memory`. The number of words paid is at most the budget.
pub record IsVerdict (words : List ℕ) (limits : Bounds) (r : Result Bool Refusal) : Type 0 where
  pub found : IfOk r (λ yes. (v : Tree) × IsValueOf (words ∷ []) limits v × (first_cap v ≡ None)
      × (IsTrue yes ↔ (canon v ≡ bytes words)))
  pub refused : IfErr r (λ e. IsRefusedMessage (words ∷ []) limits e)
  pub no_memory : IfErr r (λ e. e ≢ refusals.Memory)
  pub bounded : IfErr r (λ e. IsPaidWithin limits.budget e)
