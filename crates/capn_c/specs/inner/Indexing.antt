-- The result of the task that writes the index of a message into the caller's entries.
use Rattle.std.specs.Prelude.{◌≡◌, ◌<◌, ◌≤◌, ℕ, List, ⊤, length, Result, IfOk, IfErr, IsErrOf, OnErr, MatchResult}
use Rattle.capn_stream.specs.FrameRefusal.{most_few}
use Rattle.capn_value.specs.Tree.{Tree}
use Rattle.capn_walk.specs.Accepted.{IsBounded, IsValueOf}
use Rattle.capn_walk.specs.Limits.{Bounds}
use Rattle.capn_walk.specs.Surveyed.{IsSurvey}
use Rattle.capn_walk.specs.declared.survey_answer.Surveyed.{Surveyed}
use Rattle.capn_canon.specs.Refusal.{IsPaidWithin, IsUnaccepted}
use Rattle.capn_canon.specs.declared.form.Form.{Form}
use Rattle.capn_canon.specs.declared.refusal.Refusal.{Refusal}
use Rattle.capn_canon.specs.declared.refusal.Refusal.TheVariants as refusals
use Rattle.capn_c.specs.Entries.{table_length}
use Rattle.capn_c.specs.declared.entries.CapnEntry.{CapnEntry}
use Rattle.capn_c.specs.inner.Reported.{IsIndex}

-- If `r` is `Ok`, it has the survey of `message`, which is read in `form`. The index is then written if `old` has an
-- entry for each visit, and otherwise `new` is `old`. If `r` is an `Err`, its refusal says why `message` is not
-- accepted, or is `Memory` and `message` has more than 64 segments. `new` is then `old`.
pub record IsIndexWritten (form : Form) (message : List (List ℕ)) (limits : Bounds) (old new : List CapnEntry)
    (r : Result Surveyed Refusal) : Type 0 where
  pub counted : IfOk r (λ s. IsSurvey message limits s)
  pub written : IfOk r (λ s. s.visits ≤ length old → IsIndex (table_length form message) message limits old new)
  pub no_room : IfOk r (λ s. length old < s.visits → new ≡ old)
  pub only : (v : Tree) → IsValueOf message limits v → MatchResult r (λ s. ⊤) (λ e. e ≡ refusals.Memory)
  pub refused : IfErr r (λ e. IsUnaccepted message limits e)
  pub memory : IsErrOf r refusals.Memory → most_few < length message
  pub bounded : MatchResult r (λ s. IsBounded limits.budget s.paid s.visits) (λ e. IsPaidWithin limits.budget e)
  pub unchanged : OnErr r (new ≡ old)
