-- The clauses of a call on bytes allow one status and one report for each input, and status 8. (For `decision.rt`.)
use Rattle.std.proofs.Common.{◌≡◌, ◌⊎◌, ◌↔◌, ◌≤◌, ℕ, inl, inr, List, true, false, refl, ap, sym}
use Rattle.std.proofs.Common.{◌∙◌, arith}
use Rattle.sha2.specs.Sha256.{sha256}
use Rattle.capn_value.specs.Tree.{Tree}
use Rattle.capn_stream.specs.Frames.{StandsFirst}
use Rattle.capn_stream.specs.FrameRefusal.{IsFrameRefused}
use Rattle.capn_stream.specs.declared.fault.FrameFault.{FrameFault}
use Rattle.capn_stream.specs.declared.fault.FrameFault.TheVariants as frame
use Rattle.capn_stream.proofs.shared.FrameLaws.{one_frame, refused_whole, whole_of}
use Rattle.capn_stream.proofs.shared.FrameLaws as frame_laws
use Rattle.capn_walk.specs.Accepted.{number_of_visits, paid}
use Rattle.capn_walk.specs.Limits.{Bounds}
use Rattle.capn_walk.specs.declared.survey_answer.Surveyed.{Surveyed}
use Rattle.capn_canon.specs.BareVerdict.{SaysCanonical}
use Rattle.capn_canon.specs.Denotes.{Answers, Denotes}
use Rattle.capn_canon.specs.Layout.{canon}
use Rattle.capn_canon.specs.Refusal.{IsRefused, IsUnacceptedIn}
use Rattle.capn_canon.specs.SurveyedBytes.{Surveys}
use Rattle.capn_canon.specs.declared.form.Form.{Form}
use Rattle.capn_canon.specs.declared.form.Form.TheVariants as forms
use Rattle.capn_canon.specs.declared.refusal.Refusal.{Refusal}
use Rattle.capn_canon.specs.declared.refusal.Refusal.TheVariants as refusals
use Rattle.capn_canon.proofs.shared.NotRefused.{not_refused}
use Rattle.capn_canon.proofs.shared.NotUnaccepted.{not_unaccepted}
use Rattle.capn_canon.proofs.shared.OneReading.{one_message, one_value}
use Rattle.capn_canon.proofs.shared.OneRefusal.{one_refusal}
use Rattle.capn_abi.specs.StatusCodes.{Reports, answered, at_number, code, frame_code, report_of}
use Rattle.capn_abi.specs.declared.report.CapnReport.{CapnReport}
use Rattle.capn_c.specs.Decision.{Agree}
use Rattle.capn_c.specs.Figures.{FiguresIn, reported_cap}
use Rattle.capn_c.specs.FrameReport.{ReportsFrame, frame_report}
use Rattle.capn_c.specs.declared.figures.CapnFigures.{CapnFigures}
use Rattle.capn_c.proofs.Decided.{IsTold, Wrong, WrongLimits, agreed, frame_reported_by, kinds, kinds_limits}
use Rattle.capn_c.proofs.Decided.{reported_by, told, told_limits}
use Rattle.capn_c.proofs.OutOfMemory.{unaccepted_refused}

-- ---- answers with a survey

-- `bs` are accepted, with the price and the number of visits in `r`.
abbrev pub IsSurveyTold : Form → List ℕ → Bounds → ℕ → CapnReport → Type 0
IsSurveyTold form bs limits s r = (s ≡ 0)
    × ((x : Surveyed) × Surveys form bs limits x × (r ≡ answered 0 x.paid x.visits))

module _ (form : Form) (bs : List ℕ) (limits : Bounds) where
  surveys_denote : (x : Surveyed) → Surveys form bs limits x → (v : Tree) × Denotes form bs limits v
  surveys_denote x h =
      (h.survey.value, record { message = h.message; reads = h.reads; value = h.survey.is })

  pub one_price_and_visits : (x y : Surveyed) → Surveys form bs limits x → Surveys form bs limits y
      → (x.paid ≡ y.paid) × (x.visits ≡ y.visits)
  one_price_and_visits x y h k =
      let same = one_message form bs limits.message_words h.message k.message h.reads k.reads in (
        h.survey.pays ∙ ap (λ (m : List (List ℕ)). paid m limits) same ∙ sym k.survey.pays,
        h.survey.counts ∙ ap (λ (m : List (List ℕ)). number_of_visits m limits) same ∙ sym k.survey.counts,
      )

  one_survey : (s t : ℕ) (r q : CapnReport) → IsSurveyTold form bs limits s r → IsSurveyTold form bs limits t q
      → (s ≡ t) × (r ≡ q)
  one_survey s t r q (e, (x, h, a)) (f, (y, k, b)) =
      let same = one_price_and_visits x y h k in (
        e ∙ sym f,
        a ∙ ap (λ (n : ℕ). answered 0 n x.visits) same.0 ∙ ap (λ (n : ℕ). answered 0 y.paid n) same.1 ∙ sym b,
      )

  survey_apart : (s : ℕ) (r : CapnReport) (e : Refusal) → IsSurveyTold form bs limits s r
      → IsUnacceptedIn form bs limits e → e ≡ refusals.Memory
  survey_apart s r e (is, (x, h, a)) w =
      let d = surveys_denote x h in not_unaccepted form bs limits d.0 e d.1 w

  pub one_unaccepted : (e f : Refusal) → (e ≡ refusals.Memory → ⊥) → (f ≡ refusals.Memory → ⊥)
      → IsUnacceptedIn form bs limits e → IsUnacceptedIn form bs limits f → e ≡ f
  one_unaccepted e f ne nf w v =
      one_refusal form bs limits e f ne nf (unaccepted_refused form bs limits e w)
      (unaccepted_refused form bs limits f v)

  pub surveys_agree : (wrong : ℕ → Type 0) (s t : ℕ) (r q : CapnReport)
      → IsTold code report_of wrong (IsSurveyTold form bs limits) (IsUnacceptedIn form bs limits) s r
      → IsTold code report_of wrong (IsSurveyTold form bs limits) (IsUnacceptedIn form bs limits) t q → Agree s r t q
  surveys_agree wrong s t r q h k =
      agreed code report_of refusals.Memory wrong (IsSurveyTold form bs limits) (IsUnacceptedIn form bs limits) refl
      one_survey survey_apart one_unaccepted s t r q h k

  -- The figures of a message have its price and its number of visits.
  pub figures_told : (s : ℕ) (r : CapnReport) (f : CapnFigures) → s ≡ 0 → FiguresIn form bs limits f
      → r ≡ answered 0 f.paid f.visits → IsSurveyTold form bs limits s r
  figures_told s r f e h a =
      let x : Surveyed = record {
        paid = f.paid;
        visits = f.visits;
        capability = reported_cap f.has_capability f.capability;
      } in (
        e,
        (
          x,
          record {
            message = h.message;
            reads = h.reads;
            survey = record {
              value = h.are.value;
              is = h.are.is;
              pays = h.are.pays;
              counts = h.are.counts;
              capability = h.are.capability;
            };
          },
          a,
        ),
      )

-- ---- answers with a digest

-- `bs` have canonical bytes, and `r` has the price alone.
abbrev pub IsPriceTold : Form → List ℕ → Bounds → ℕ → CapnReport → Type 0
IsPriceTold form bs limits s r = (s ≡ 0) × ((text : List ℕ) × Answers form bs limits text r.paid)
    × (r ≡ answered 0 r.paid 0)

module _ (form : Form) (bs : List ℕ) (limits : Bounds) where
  one_price : (s t : ℕ) (r q : CapnReport) → IsPriceTold form bs limits s r → IsPriceTold form bs limits t q
      → (s ≡ t) × (r ≡ q)
  one_price s t r q (e, (text, h), a) (f, (other, k), b) =
      let same = one_message form bs limits.message_words h.message k.message h.reads k.reads in
      let price : r.paid ≡ q.paid =
      h.answer.priced ∙ ap (λ (m : List (List ℕ)). paid m limits) same ∙ sym k.answer.priced in
      (e ∙ sym f, a ∙ ap (λ (n : ℕ). answered 0 n 0) price ∙ sym b)

  price_apart : (s : ℕ) (r : CapnReport) (e : Refusal) → IsPriceTold form bs limits s r
      → IsRefused form bs limits e → e ≡ refusals.Memory
  price_apart s r e (is, (text, h), a) w =
      not_refused form bs limits h.answer.value e
      (record { message = h.message; reads = h.reads; value = h.answer.is }) h.answer.free w

  pub prices_agree : (wrong : ℕ → Type 0) (s t : ℕ) (r q : CapnReport)
      → IsTold code report_of wrong (IsPriceTold form bs limits) (IsRefused form bs limits) s r
      → IsTold code report_of wrong (IsPriceTold form bs limits) (IsRefused form bs limits) t q → Agree s r t q
  prices_agree wrong s t r q h k =
      agreed code report_of refusals.Memory wrong (IsPriceTold form bs limits) (IsRefused form bs limits) refl
      one_price price_apart (one_refusal form bs limits) s t r q h k

-- ---- whether bare bytes are canonical

-- `s` says whether `bs` are canonical: 0 for yes, 5 for no.
abbrev pub IsVerdictTold : List ℕ → Bounds → ℕ → CapnReport → Type 0
IsVerdictTold bs limits s r = (((s ≡ 0) × SaysCanonical bs limits true) ⊎ ((s ≡ 5) × SaysCanonical bs limits false))
    × (r ≡ at_number 0)

module _ (bs : List ℕ) (limits : Bounds) where
  never_both : SaysCanonical bs limits true → SaysCanonical bs limits false → ⊥
  never_both h k =
      let same = one_value forms.Bare bs limits h.value k.value h.is k.is in
      let has : canon k.value ≡ bs = sym (ap canon same) ∙ h.answer.0 refl in
      let other : false ≡ true = k.answer.1 has in absurd cc

  one_verdict : (s t : ℕ) (r q : CapnReport) → IsVerdictTold bs limits s r → IsVerdictTold bs limits t q
      → (s ≡ t) × (r ≡ q)
  one_verdict s t r q (inl (e, h), a) (inl (f, k), b) = (e ∙ sym f, a ∙ sym b)
  one_verdict s t r q (inl (e, h), a) (inr (f, k), b) = absurd (never_both h k)
  one_verdict s t r q (inr (e, h), a) (inl (f, k), b) = absurd (never_both k h)
  one_verdict s t r q (inr (e, h), a) (inr (f, k), b) = (e ∙ sym f, a ∙ sym b)

  verdict_apart : (s : ℕ) (r : CapnReport) (e : Refusal) → IsVerdictTold bs limits s r
      → IsRefused forms.Bare bs limits e → e ≡ refusals.Memory
  verdict_apart s r e (inl (is, h), a) w = not_refused forms.Bare bs limits h.value e h.is h.free w
  verdict_apart s r e (inr (is, h), a) w = not_refused forms.Bare bs limits h.value e h.is h.free w

  pub verdicts_agree : (wrong : ℕ → Type 0) (s t : ℕ) (r q : CapnReport)
      → IsTold code report_of wrong (IsVerdictTold bs limits) (IsRefused forms.Bare bs limits) s r
      → IsTold code report_of wrong (IsVerdictTold bs limits) (IsRefused forms.Bare bs limits) t q → Agree s r t q
  verdicts_agree wrong s t r q h k =
      agreed code report_of refusals.Memory wrong (IsVerdictTold bs limits) (IsRefused forms.Bare bs limits) refl
      one_verdict verdict_apart (one_refusal forms.Bare bs limits) s t r q h k

  pub verdict_possible : (s : ℕ) (r : CapnReport) → (s ≡ 0 → SaysCanonical bs limits true)
      → (s ≡ 5 → SaysCanonical bs limits false) → (s ≤ 5 → r ≡ at_number 0) → (R : Type 0) → (8 ≤ s → R)
      → (s ≡ 0) ⊎ (s ≡ 3) ⊎ (s ≡ 4) ⊎ (s ≡ 5) ⊎ (8 ≤ s) → IsVerdictTold bs limits s r ⊎ (s ≡ 3) ⊎ (s ≡ 4) ⊎ R
  verdict_possible s r says denies blank R refused (inl e) = inl (inl (e, says e), blank (omega (arith, e)))
  verdict_possible s r says denies blank R refused (inr (inl e)) = inr (inl e)
  verdict_possible s r says denies blank R refused (inr (inr (inl e))) = inr (inr (inl e))
  verdict_possible s r says denies blank R refused (inr (inr (inr (inl e)))) =
      inl (inr (e, denies e), blank (omega (arith, e)))
  verdict_possible s r says denies blank R refused (inr (inr (inr (inr k)))) = inr (inr (inr (refused k)))

-- ---- the first frame

-- The first frame in `bs` has the length that `r` has.
abbrev pub IsLengthTold : List ℕ → ℕ → ℕ → CapnReport → Type 0
IsLengthTold bs most s r = (s ≡ 0) × ((message : List (List ℕ)) × StandsFirst bs most message r.length)
    × (r ≡ answered r.length 0 0)

module _ (bs : List ℕ) (most : ℕ) where
  one_length : (s t : ℕ) (r q : CapnReport) → IsLengthTold bs most s r → IsLengthTold bs most t q → (s ≡ t) × (r ≡ q)
  one_length s t r q (e, (m, h), a) (f, (n, k), b) =
      let same = (one_frame bs most most m n r.length q.length h k).1 in
      (e ∙ sym f, a ∙ ap (λ (x : ℕ). answered x 0 0) same ∙ sym b)

  length_apart : (s : ℕ) (r : CapnReport) (e : FrameFault) → IsLengthTold bs most s r → IsFrameRefused bs most e
      → e ≡ frame.Memory
  length_apart s r e (is, (m, h), a) w = refused_whole bs most e (whole_of bs most m r.length h) w

  one_fault : (e f : FrameFault) → (e ≡ frame.Memory → ⊥) → (f ≡ frame.Memory → ⊥) → IsFrameRefused bs most e
      → IsFrameRefused bs most f → e ≡ f
  one_fault e f ne nf w v = frame_laws.one_refusal bs most e f w v ne nf

  pub lengths_agree : (wrong : ℕ → Type 0) (s t : ℕ) (r q : CapnReport)
      → IsTold frame_code (frame_report bs) wrong (IsLengthTold bs most) (IsFrameRefused bs most) s r
      → IsTold frame_code (frame_report bs) wrong (IsLengthTold bs most) (IsFrameRefused bs most) t q → Agree s r t q
  lengths_agree wrong s t r q h k =
      agreed frame_code (frame_report bs) frame.Memory wrong (IsLengthTold bs most) (IsFrameRefused bs most) refl
      one_length length_apart one_fault s t r q h k

-- ---- the clauses of a call

module _ {F L T : Type 0} (form : Form) (bs : List ℕ) (limits : Bounds) (s : ℕ) (r : CapnReport)
    (of_form : (s ≡ 2) ↔ (F → ⊥)) (of_limits : (s ≡ 3) ↔ (F × (L → ⊥))) (of_tariff : (s ≡ 4) ↔ (F × L × (T → ⊥)))
    (blank : 1 ≤ s → s ≤ 4 → r ≡ at_number 0)
    (possible : (s ≡ 0) ⊎ (s ≡ 2) ⊎ (s ≡ 3) ⊎ (s ≡ 4) ⊎ (8 ≤ s)) where
  told_all : (done : ℕ → CapnReport → Type 0) (reason : Refusal → Type 0) → (s ≡ 0 → done s r)
      → (5 ≤ s → (e : Refusal) × Reports s r e × reason e) → IsTold code report_of (Wrong F L T) done reason s r
  told_all done reason found refused =
      told s r of_form of_limits of_tariff (λ a b. blank (omega (arith, a)) b) code report_of done reason
      (kinds s _ _ found (λ k. reported_by reason s r (refused (omega (arith, k)))) possible)

  pub survey_clauses : (s ≡ 0 → (x : Surveyed) × Surveys form bs limits x × (r ≡ answered 0 x.paid x.visits))
      → (5 ≤ s → (e : Refusal) × Reports s r e × IsUnacceptedIn form bs limits e)
      → IsTold code report_of (Wrong F L T) (IsSurveyTold form bs limits) (IsUnacceptedIn form bs limits) s r
  survey_clauses found refused =
      told_all (IsSurveyTold form bs limits) (IsUnacceptedIn form bs limits) (λ e. (e, found e)) refused

  pub figures_clauses : (f : CapnFigures) → (s ≡ 0 → FiguresIn form bs limits f × (r ≡ answered 0 f.paid f.visits))
      → (5 ≤ s → (e : Refusal) × Reports s r e × IsUnacceptedIn form bs limits e)
      → IsTold code report_of (Wrong F L T) (IsSurveyTold form bs limits) (IsUnacceptedIn form bs limits) s r
  figures_clauses f found refused =
      told_all (IsSurveyTold form bs limits) (IsUnacceptedIn form bs limits)
      (λ e. let h = found e in figures_told form bs limits s r f e h.0 h.1) refused

  pub price_clauses : (d : List ℕ) → (s ≡ 0 → (text : List ℕ) × Answers form bs limits text r.paid × (d ≡ sha256 text))
      → (s ≡ 0 → r ≡ answered 0 r.paid 0) → (5 ≤ s → (e : Refusal) × Reports s r e × IsRefused form bs limits e)
      → IsTold code report_of (Wrong F L T) (IsPriceTold form bs limits) (IsRefused form bs limits) s r
  price_clauses d found rest refused =
      told_all (IsPriceTold form bs limits) (IsRefused form bs limits)
      (λ e. let h = found e in (e, (h.0, h.1), rest e)) refused

module _ {L T : Type 0} (bs : List ℕ) (s : ℕ) (r : CapnReport) (of_limits : (s ≡ 3) ↔ (L → ⊥))
    (of_tariff : (s ≡ 4) ↔ (L × (T → ⊥))) where
  pub verdict_clauses : (limits : Bounds) → (s ≤ 5 → r ≡ at_number 0)
      → ((s ≡ 0) ⊎ (s ≡ 3) ⊎ (s ≡ 4) ⊎ (s ≡ 5) ⊎ (8 ≤ s)) → (s ≡ 0 → SaysCanonical bs limits true)
      → (s ≡ 5 → SaysCanonical bs limits false)
      → (6 ≤ s → (e : Refusal) × Reports s r e × IsRefused forms.Bare bs limits e)
      → IsTold code report_of (WrongLimits L T) (IsVerdictTold bs limits) (IsRefused forms.Bare bs limits) s r
  verdict_clauses limits blank possible says denies refused =
      told_limits s r of_limits of_tariff (λ a b. blank (omega (arith, b))) code report_of (IsVerdictTold bs limits)
      (IsRefused forms.Bare bs limits)
      (verdict_possible bs limits s r says denies blank _
      (λ k. reported_by (IsRefused forms.Bare bs limits) s r (refused (omega (arith, k)))) possible)

  pub length_clauses : (most : ℕ) → (1 ≤ s → s ≤ 4 → r ≡ at_number 0) → ((s ≡ 0) ⊎ (s ≡ 3) ⊎ (s ≡ 4) ⊎ (8 ≤ s))
      → (s ≡ 0 → (message : List (List ℕ)) × StandsFirst bs most message r.length)
      → (s ≡ 0 → r ≡ answered r.length 0 0)
      → (5 ≤ s → (e : FrameFault) × ReportsFrame bs s r e × IsFrameRefused bs most e)
      → IsTold frame_code (frame_report bs) (WrongLimits L T) (IsLengthTold bs most) (IsFrameRefused bs most) s r
  length_clauses most blank possible found rest refused =
      told_limits s r of_limits of_tariff (λ a b. blank (omega (arith, a)) b) frame_code (frame_report bs)
      (IsLengthTold bs most) (IsFrameRefused bs most)
      (kinds_limits s _ _ (λ e. (e, found e, rest e))
      (λ k. frame_reported_by bs (IsFrameRefused bs most) s r (refused (omega (arith, k)))) possible)
