-- The clauses of `capn_annotate` allow one status and one report for each input and each length of the array, and
-- status 8. (For `decision.rt`.)
use Rattle.std.proofs.Common.{◌≡◌, ◌*◌, ℕ, List, refl, ap, sym, ◌∙◌}
use Rattle.capn_walk.specs.Limits.{Bounds}
use Rattle.capn_walk.specs.declared.survey_answer.Surveyed.{Surveyed}
use Rattle.capn_canon.specs.Refusal.{IsUnacceptedIn}
use Rattle.capn_canon.specs.SurveyedBytes.{Surveys}
use Rattle.capn_canon.specs.declared.form.Form.{Form}
use Rattle.capn_canon.specs.declared.refusal.Refusal.{Refusal}
use Rattle.capn_canon.specs.declared.refusal.Refusal.TheVariants as refusals
use Rattle.capn_canon.proofs.shared.NotUnaccepted.{not_unaccepted}
use Rattle.capn_answers.specs.Annotated.{HasLinesIn}
use Rattle.capn_answers.proofs.shared.OneCount.{one_count}
use Rattle.capn_abi.specs.StatusCodes.{answered, code, report_of}
use Rattle.capn_abi.specs.declared.report.CapnReport.{CapnReport}
use Rattle.capn_c.specs.Decision.{Agree}
use Rattle.capn_c.proofs.Decided.{IsTold, agreed}
use Rattle.capn_c.proofs.DecidedAnswers.{one_price_and_visits, one_unaccepted}
use Rattle.capn_c.proofs.DecidedRoom.{IsRoom, one_room}

-- The lines of `bs` have the length in `r`, and `s` says whether an array of `n` records has room for them.
abbrev pub IsLinesTold : Form → List ℕ → Bounds → ℕ → ℕ → CapnReport → Type 0
IsLinesTold form bs limits n s r = IsRoom (48 * n) r.length s
    × ((k : ℕ) × HasLinesIn form bs limits k × (r.length ≡ 48 * k))
    × ((x : Surveyed) × Surveys form bs limits x × (r ≡ answered r.length x.paid x.visits))

module _ (form : Form) (bs : List ℕ) (limits : Bounds) (n : ℕ) where
  one_told : (s t : ℕ) (r q : CapnReport) → IsLinesTold form bs limits n s r → IsLinesTold form bs limits n t q
      → (s ≡ t) × (r ≡ q)
  one_told s t r q (h, (j, a, c), (x, i, e)) (k, (l, b, d), (y, o, f)) =
      let same = one_price_and_visits form bs limits x y i o in
      let counts = one_count form bs limits j l a b in
      let lengths : r.length ≡ q.length = c ∙ ap (λ (z : ℕ). 48 * z) counts ∙ sym d in
      let reports : r ≡ q =
      e ∙ ap (λ (p : ℕ). answered r.length p x.visits) same.0
      ∙ ap (λ (v : ℕ). answered r.length y.paid v) same.1
      ∙ ap (λ (z : ℕ). answered z y.paid y.visits) lengths ∙ sym f in
      (one_room (48 * n) r.length q.length s t lengths h k, reports)

  told_apart : (s : ℕ) (r : CapnReport) (e : Refusal) → IsLinesTold form bs limits n s r
      → IsUnacceptedIn form bs limits e → e ≡ refusals.Memory
  told_apart s r e (h, c, (x, i, a)) w =
      not_unaccepted form bs limits i.survey.value e
      (record { message = i.message; reads = i.reads; value = i.survey.is }) w

  pub lines_agree : (wrong : ℕ → Type 0) (s t : ℕ) (r q : CapnReport)
      → IsTold code report_of wrong (IsLinesTold form bs limits n) (IsUnacceptedIn form bs limits) s r
      → IsTold code report_of wrong (IsLinesTold form bs limits n) (IsUnacceptedIn form bs limits) t q → Agree s r t q
  lines_agree wrong s t r q h k =
      agreed code report_of refusals.Memory wrong (IsLinesTold form bs limits n) (IsUnacceptedIn form bs limits) refl
      one_told told_apart (one_unaccepted form bs limits) s t r q h k
