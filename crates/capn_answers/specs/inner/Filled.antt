-- Lines that are written one after another, and the results of the private functions that write them.
use Rattle.std.specs.Prelude.{◌≡◌, ◌≢◌, ℕ, suc, ◌+◌, ◌<◌, ◌≤◌, List, [], ◌∷◌, ◌++◌, length, drop, set}
use Rattle.std.specs.Prelude.{Result, IfOk, IfErr, IsErrOf, MatchResult}
use Rattle.capn_walk.specs.Accepted.{IsAccepted, IsBounded}
use Rattle.capn_walk.specs.Limits.{Bounds}
use Rattle.capn_walk.specs.Surveyed.{IsSurvey}
use Rattle.capn_canon.specs.Refusal.{IsPaidWithin, IsUnaccepted}
use Rattle.capn_canon.specs.declared.form.Form.{Form}
use Rattle.capn_canon.specs.declared.refusal.Refusal.{Refusal}
use Rattle.capn_canon.specs.declared.refusal.Refusal.TheVariants as refusals
use Rattle.capn_cover.specs.declared.covered.Covered.{Covered}
use Rattle.capn_cover.specs.Cover.{IsCover}
use Rattle.capn_lines.specs.Lines.{lines_of}
use Rattle.capn_lines.specs.declared.line.Line.{Line}
use Rattle.capn_answers.specs.Annotated.{c_lines}
use Rattle.capn_answers.specs.LineRecords.{c_line, table_bytes}
use Rattle.capn_answers.specs.declared.line_input.Annotated.{Annotated}
use Rattle.capn_answers.specs.declared.line_record.CapnLine.{CapnLine}

-- the items `out` after the lines are written from index `first` on; a line past the end is not written
abbrev pub written_from : (table : ℕ) → List (List ℕ) → (first : ℕ) → List Line → List CapnLine → List CapnLine
written_from table message first [] out = out
written_from table message first (line ∷ lines) out =
    written_from table message (suc first) lines (set out first (c_line table message line))

-- If `r` is `Ok`, it has the number of lines of `message` and the survey, and the lines are in `new` if they fit. If
-- `r` is an `Err`, its refusal is true of `message`, and is `Memory` only if `message` is accepted. Unless all lines
-- are written, `new` is `old`.
pub record IsAnnotated (form : Form) (message : List (List ℕ)) (limits : Bounds) (old new : List CapnLine)
    (r : Result Annotated Refusal) : Type 0 where
  pub found : IfOk r (λ a. (words : List Covered) × IsCover message limits words
      × (a.lines ≡ length (lines_of message words))
      × (a.lines ≤ length old
      → new ≡ c_lines (table_bytes form message) message words ++ drop (length (lines_of message words)) old))
  pub surveyed : IfOk r (λ a. IsSurvey message limits a.survey)
  pub refused : IfErr r (λ e. IsUnaccepted message limits e)
  pub memory : IsErrOf r refusals.Memory → IsAccepted message limits
  pub bounded : MatchResult r (λ a. IsBounded limits.budget a.survey.paid a.survey.visits)
      (λ e. IsPaidWithin limits.budget e)
  pub kept : MatchResult r (λ a. length old < a.lines → new ≡ old) (λ e. new ≡ old)
