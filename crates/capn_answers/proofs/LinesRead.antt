-- The lines of a message are those of the bytes that are read as it. (For `lines_in`.)
use Rattle.std.proofs.Common.{◌≡◌, ℕ, ◌<◌, ◌≤◌, ◌++◌, inl, inr, List, length, drop, subst, refl, arith, Result, Ok}
use Rattle.std.proofs.Common.{Err, IfOk, IfErr, MatchResult}
use Rattle.std.specs.Bool.{⊤}
use Rattle.capn_value.specs.Tree.{Tree}
use Rattle.capn_walk.specs.Accepted.{IsBounded}
use Rattle.capn_walk.specs.Limits.{Bounds}
use Rattle.capn_walk.specs.Surveyed.{IsSurvey}
use Rattle.capn_walk.specs.declared.survey_answer.Surveyed.{Surveyed}
use Rattle.capn_canon.specs.Answered.{IsRefusedReading, IsRun}
use Rattle.capn_canon.specs.Denotes.{Denotes}
use Rattle.capn_canon.specs.Refusal.{IsUnacceptedIn}
use Rattle.capn_canon.specs.declared.form.Form.{Form}
use Rattle.capn_canon.specs.declared.refusal.Refusal.{Refusal}
use Rattle.capn_canon.specs.declared.refusal.Refusal.TheVariants as refusals
use Rattle.capn_canon.proofs.shared.NotUnaccepted.{not_unaccepted, unaccepted_message}
use Rattle.capn_cover.specs.declared.covered.Covered.{Covered}
use Rattle.capn_cover.specs.Cover.{IsCover}
use Rattle.capn_lines.specs.Lines.{lines_of}
use Rattle.capn_answers.specs.Annotated.{c_lines}
use Rattle.capn_answers.specs.LineRecords.{table_bytes}
use Rattle.capn_answers.specs.declared.line_input.Annotated.{Annotated}
use Rattle.capn_answers.specs.declared.line_record.CapnLine.{CapnLine}
use Rattle.capn_answers.specs.inner.Filled.{IsAnnotated, written_from}
use Rattle.capn_answers.proofs.Filled.{written-all}
use Rattle.capn_answers.proofs.shared.Reading.{reading_unaccepted}

-- ---- an accepted message

module _ (form : Form) (m : List (List ℕ)) (limits : Bounds) (old : List CapnLine) (words : List Covered) (count : ℕ)
    (survey : Surveyed) (cover : IsCover m limits words) (counted : count ≡ length (lines_of m words))
    (surveyed : IsSurvey m limits survey) (bounded : IsBounded limits.budget survey.paid survey.visits) where
  -- the lines are written
  pub all_written : (table : ℕ) → table ≡ table_bytes form m → count ≤ length old
      → IsAnnotated form m limits old (written_from table m 0 (lines_of m words) old)
      (Ok (record { lines = count; survey = survey }))
  all_written table is room =
      let fits : length (lines_of m words) ≤ length old = omega arith in
      record {
        found = (
          words,
          cover,
          counted,
          λ h. subst
              (λ (t : ℕ). written_from table m 0 (lines_of m words) old
              ≡ c_lines t m words ++ drop (length (lines_of m words)) old) is
              (written-all table m (lines_of m words) old fits),
        );
        surveyed = surveyed;
        refused = tt;
        memory = λ h. absurd cc;
        bounded = bounded;
        kept = λ h. absurd (omega arith);
      }

  -- the lines do not fit
  pub none_written : length old < count
      → IsAnnotated form m limits old old (Ok (record { lines = count; survey = survey }))
  none_written short =
      record {
        found = (words, cover, counted, λ h. absurd (omega arith));
        surveyed = surveyed;
        refused = tt;
        memory = λ h. absurd cc;
        bounded = bounded;
        kept = λ h. refl;
      }

-- ---- a task of the type `S`, whose form is `form_of` and whose items are `out`

module _ {S : Type 0} (form_of : S → Form) (out : S → List CapnLine) (kept : S → S → Type 0) (bs : List ℕ)
    (limits : Bounds) (old new : S) where
  -- the result `r` of a run of the task that writes lines
  abbrev IsLinesRun : Result Annotated Refusal → Type 0
  IsLinesRun r = IsRun (form_of old) bs limits
      (λ (task : S) m l x (after : S). kept task after × (form_of after ≡ form_of task)
      × IsAnnotated (form_of task) m l (out task) (out after) x) old r new

  lines_refused : (r : Result Annotated Refusal) → IsLinesRun r
      → IfErr r (λ e. IsUnacceptedIn (form_of old) bs limits e)
  lines_refused (Err e) (inl (m, reads, (k, f, h))) = unaccepted_message (form_of old) bs limits m e reads h.refused
  lines_refused (Err e) (inr (f, is, h, same)) =
      let one : f ≡ e = cc in
      reading_unaccepted (form_of old) bs limits e
      (subst (λ (x : Refusal). IsRefusedReading (form_of old) bs limits x) one h)
  lines_refused (Ok a) told = tt

  pub lines_only : (r : Result Annotated Refusal) → IsLinesRun r → (v : Tree) → Denotes (form_of old) bs limits v
      → MatchResult r (λ a. ⊤) (λ e. e ≡ refusals.Memory)
  lines_only (Ok a) told v denotes = tt
  lines_only (Err e) told v denotes =
      not_unaccepted (form_of old) bs limits v e denotes (lines_refused (Err e) told)
