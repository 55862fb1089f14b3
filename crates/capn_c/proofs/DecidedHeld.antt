-- The clauses of a call on segments allow one status and one report for each input, and status 8. (For `decision.rt`.)
use Rattle.std.proofs.Common.{◌≡◌, ◌⊎◌, ◌↔◌, ◌<◌, ◌≤◌, ℕ, inl, inr, List, Some, None, length, refl, ap, sym, ◌∙◌, arith}
use Rattle.sha2.specs.Sha256.{sha256}
use Rattle.capn_words.specs.Message.{most_segments}
use Rattle.capn_value.specs.FirstCap.{first_cap}
use Rattle.capn_stream.specs.Segments.{IsHeld, counted_words}
use Rattle.capn_stream.specs.declared.fault.FrameFault.{FrameFault}
use Rattle.capn_stream.specs.declared.fault.FrameFault.TheVariants as frame
use Rattle.capn_walk.specs.Accepted.{root}
use Rattle.capn_walk.specs.Limits.{Bounds}
use Rattle.capn_walk.specs.declared.survey_answer.Surveyed.{Surveyed}
use Rattle.capn_canon.specs.Refusal.{IsRefusedMessage}
use Rattle.capn_canon.specs.declared.refusal.Refusal.{Refusal}
use Rattle.capn_canon.specs.declared.refusal.Refusal.TheVariants as refusals
use Rattle.capn_canon.proofs.shared.NotRefused.{accepted-not_refused}
use Rattle.capn_canon.proofs.shared.OneRefusal.{one_message_refusal}
use Rattle.capn_walk.proofs.shared.Unique.{unique}
use Rattle.capn_abi.specs.StatusCodes.{Reports, answered, at_number, code, report_of}
use Rattle.capn_abi.specs.declared.report.CapnReport.{CapnReport}
use Rattle.capn_c.specs.Decision.{Agree}
use Rattle.capn_c.specs.Figures.{reported_cap}
use Rattle.capn_c.specs.Held.{AnswersHeld, FiguresHeld, IsMisheld, IsRefusedHeld, IsUnacceptedHeld, SurveysHeld}
use Rattle.capn_c.specs.declared.figures.CapnFigures.{CapnFigures}
use Rattle.capn_c.proofs.Decided.{IsTold, WrongLimits, agreed, kinds_limits, reported_by, told_limits}
use Rattle.capn_c.proofs.HeldRuns.{held_not_misheld}
use Rattle.capn_c.proofs.OutOfMemory.{unaccepted_held_refused}

-- ---- one refusal of segments

-- `x` says why the segments of `m` are no message: there are none, too many, or too many words.
abbrev MisheldPart : List (List ℕ) → ℕ → FrameFault → Type 0
MisheldPart m most x = ((x ≡ frame.Empty) × (length m ≡ 0))
    ⊎ ((n : ℕ) × (x ≡ frame.TooManySegments n) × (n ≡ length m) × (most_segments < n))
    ⊎ ((n : ℕ) × (x ≡ frame.TooManyWords n) × (0 < length m) × (length m ≤ most_segments) × (n ≡ counted_words m))

misheld_part : (m : List (List ℕ)) (most : ℕ) (x : FrameFault) → IsMisheld m most x → MisheldPart m most x
misheld_part m most frame.Empty h = inl (refl, h)
misheld_part m most (frame.TooManySegments n) h = inr (inl (n, refl, h.0, h.1))
misheld_part m most (frame.TooManyWords n) h = inr (inr (n, refl, h.0, h.1, h.3))
misheld_part m most frame.Memory h = absurd h
misheld_part m most frame.Cut h = absurd h
misheld_part m most frame.Failed h = absurd h

misheld_same : (m : List (List ℕ)) (most : ℕ) (x y : FrameFault) → MisheldPart m most x → MisheldPart m most y → x ≡ y
misheld_same m most x y (inl h) (inl k) = h.0 ∙ sym k.0
misheld_same m most x y (inl h) (inr (inl k)) = let a = k.2 in let b = k.3 in let d = h.1 in absurd (omega arith)
misheld_same m most x y (inl h) (inr (inr k)) = let a = k.2 in let d = h.1 in absurd (omega arith)
misheld_same m most x y (inr (inl h)) (inl k) = let a = h.2 in let b = h.3 in let d = k.1 in absurd (omega arith)
misheld_same m most x y (inr (inl h)) (inr (inl k)) =
    h.1 ∙ ap (λ (n : ℕ). frame.TooManySegments n) (h.2 ∙ sym k.2) ∙ sym k.1
misheld_same m most x y (inr (inl h)) (inr (inr k)) =
    let a = h.2 in let b = h.3 in let d = k.3 in absurd (omega arith)
misheld_same m most x y (inr (inr h)) (inl k) = let a = h.2 in let d = k.1 in absurd (omega arith)
misheld_same m most x y (inr (inr h)) (inr (inl k)) =
    let a = k.2 in let b = k.3 in let d = h.3 in absurd (omega arith)
misheld_same m most x y (inr (inr h)) (inr (inr k)) =
    h.1 ∙ ap (λ (n : ℕ). frame.TooManyWords n) (h.4 ∙ sym k.4) ∙ sym k.1

-- `e` says why the segments of `m` are no message, or why the message has no canonical bytes.
abbrev HeldPart : List (List ℕ) → Bounds → Refusal → Type 0
HeldPart m limits e = ((x : FrameFault) × (e ≡ refusals.Frame x) × IsMisheld m limits.message_words x)
    ⊎ (IsHeld m limits.message_words × IsRefusedMessage m limits e)

held_part : (m : List (List ℕ)) (limits : Bounds) (e : Refusal) → (e ≡ refusals.Memory → ⊥)
    → IsRefusedHeld m limits e → HeldPart m limits e
held_part m limits (refusals.Frame x) n h = inl (x, refl, h)
held_part m limits (refusals.Walk s) n h = inr h
held_part m limits (refusals.Capability k) n h = inr h
held_part m limits refusals.Memory n h = absurd (n refl)
held_part m limits (refusals.Bare x) n h = absurd h
held_part m limits (refusals.Packed x) n h = absurd h
held_part m limits (refusals.Trailing at) n h = absurd h

held_same : (m : List (List ℕ)) (limits : Bounds) (e f : Refusal) → (e ≡ refusals.Memory → ⊥)
    → (f ≡ refusals.Memory → ⊥) → HeldPart m limits e → HeldPart m limits f → e ≡ f
held_same m limits e f ne nf (inl (x, a, h)) (inl (y, b, k)) =
    let same = misheld_same m limits.message_words x y (misheld_part m limits.message_words x h)
    (misheld_part m limits.message_words y k) in
    a ∙ ap (λ (z : FrameFault). refusals.Frame z) same ∙ sym b
held_same m limits e f ne nf (inl (x, a, h)) (inr k) = absurd (held_not_misheld m limits.message_words x k.0 h)
held_same m limits e f ne nf (inr h) (inl (y, b, k)) = absurd (held_not_misheld m limits.message_words y h.0 k)
held_same m limits e f ne nf (inr h) (inr k) = one_message_refusal m limits e f ne nf h.1 k.1

-- ---- answers of segments

-- The segments of `m` are an accepted message, with the price and the number of visits in `r`.
abbrev pub IsSurveyHeldTold : List (List ℕ) → Bounds → ℕ → CapnReport → Type 0
IsSurveyHeldTold m limits s r = (s ≡ 0) × ((x : Surveyed) × SurveysHeld m limits x × (r ≡ answered 0 x.paid x.visits))

-- The segments of `m` have canonical bytes, and `r` has the price alone.
abbrev pub IsPriceHeldTold : List (List ℕ) → Bounds → ℕ → CapnReport → Type 0
IsPriceHeldTold m limits s r = (s ≡ 0) × ((text : List ℕ) × AnswersHeld m limits text r.paid)
    × (r ≡ answered 0 r.paid 0)

module _ (m : List (List ℕ)) (limits : Bounds) where
  pub one_held_refusal : (e f : Refusal) → (e ≡ refusals.Memory → ⊥) → (f ≡ refusals.Memory → ⊥)
      → IsRefusedHeld m limits e → IsRefusedHeld m limits f → e ≡ f
  one_held_refusal e f ne nf w v =
      held_same m limits e f ne nf (held_part m limits e ne w) (held_part m limits f nf v)

  one_held_unaccepted : (e f : Refusal) → (e ≡ refusals.Memory → ⊥) → (f ≡ refusals.Memory → ⊥)
      → IsUnacceptedHeld m limits e → IsUnacceptedHeld m limits f → e ≡ f
  one_held_unaccepted e f ne nf w v =
      one_held_refusal e f ne nf (unaccepted_held_refused m limits e w) (unaccepted_held_refused m limits f v)

  one_held_survey : (s t : ℕ) (r q : CapnReport) → IsSurveyHeldTold m limits s r → IsSurveyHeldTold m limits t q
      → (s ≡ t) × (r ≡ q)
  one_held_survey s t r q (e, (x, h, a)) (f, (y, k, b)) =
      let price : x.paid ≡ y.paid = h.survey.pays ∙ sym k.survey.pays in
      let visits : x.visits ≡ y.visits = h.survey.counts ∙ sym k.survey.counts in (
        e ∙ sym f,
        a ∙ ap (λ (n : ℕ). answered 0 n x.visits) price ∙ ap (λ (n : ℕ). answered 0 y.paid n) visits ∙ sym b,
      )

  held_survey_apart : (s : ℕ) (r : CapnReport) (e : Refusal) → IsSurveyHeldTold m limits s r
      → IsUnacceptedHeld m limits e → e ≡ refusals.Memory
  held_survey_apart s r refusals.Memory d w = refl
  held_survey_apart s r (refusals.Frame x) (is, (y, h, a)) w =
      absurd (held_not_misheld m limits.message_words x h.held w)
  held_survey_apart s r (refusals.Walk x) (is, (y, h, a)) w =
      absurd (accepted-not_refused m limits x h.survey.is.accepted w.1)
  held_survey_apart s r (refusals.Capability k) d w = absurd w
  held_survey_apart s r (refusals.Bare x) d w = absurd w
  held_survey_apart s r (refusals.Packed x) d w = absurd w
  held_survey_apart s r (refusals.Trailing at) d w = absurd w

  one_held_price : (s t : ℕ) (r q : CapnReport) → IsPriceHeldTold m limits s r → IsPriceHeldTold m limits t q
      → (s ≡ t) × (r ≡ q)
  one_held_price s t r q (e, (text, h), a) (f, (other, k), b) =
      let price : r.paid ≡ q.paid = h.answer.priced ∙ sym k.answer.priced in
      (e ∙ sym f, a ∙ ap (λ (n : ℕ). answered 0 n 0) price ∙ sym b)

  pub held_apart : (text : List ℕ) (price : ℕ) (e : Refusal) → AnswersHeld m limits text price
      → IsRefusedHeld m limits e → e ≡ refusals.Memory
  held_apart text price refusals.Memory h w = refl
  held_apart text price (refusals.Frame x) h w = absurd (held_not_misheld m limits.message_words x h.held w)
  held_apart text price (refusals.Walk x) h w =
      absurd (accepted-not_refused m limits x h.answer.is.accepted w.1)
  held_apart text price (refusals.Capability k) h (held, (v, also, some)) =
      let same = unique m h.answer.value v root h.answer.is.is also.is in
      let e : None ≡ Some k = sym h.answer.free ∙ ap first_cap same ∙ some in absurd cc
  held_apart text price (refusals.Bare x) h w = absurd w
  held_apart text price (refusals.Packed x) h w = absurd w
  held_apart text price (refusals.Trailing at) h w = absurd w

  held_price_apart : (s : ℕ) (r : CapnReport) (e : Refusal) → IsPriceHeldTold m limits s r
      → IsRefusedHeld m limits e → e ≡ refusals.Memory
  held_price_apart s r e (is, (text, h), a) w = held_apart text r.paid e h w

  pub held_surveys_agree : (wrong : ℕ → Type 0) (s t : ℕ) (r q : CapnReport)
      → IsTold code report_of wrong (IsSurveyHeldTold m limits) (IsUnacceptedHeld m limits) s r
      → IsTold code report_of wrong (IsSurveyHeldTold m limits) (IsUnacceptedHeld m limits) t q → Agree s r t q
  held_surveys_agree wrong s t r q h k =
      agreed code report_of refusals.Memory wrong (IsSurveyHeldTold m limits) (IsUnacceptedHeld m limits) refl
      one_held_survey held_survey_apart one_held_unaccepted s t r q h k

  pub held_prices_agree : (wrong : ℕ → Type 0) (s t : ℕ) (r q : CapnReport)
      → IsTold code report_of wrong (IsPriceHeldTold m limits) (IsRefusedHeld m limits) s r
      → IsTold code report_of wrong (IsPriceHeldTold m limits) (IsRefusedHeld m limits) t q → Agree s r t q
  held_prices_agree wrong s t r q h k =
      agreed code report_of refusals.Memory wrong (IsPriceHeldTold m limits) (IsRefusedHeld m limits) refl
      one_held_price held_price_apart one_held_refusal s t r q h k

  figures_held_told : (s : ℕ) (r : CapnReport) (f : CapnFigures) → s ≡ 0 → FiguresHeld m limits f
      → r ≡ answered 0 f.paid f.visits → IsSurveyHeldTold m limits s r
  figures_held_told s r f e h a =
      let x : Surveyed = record {
        paid = f.paid;
        visits = f.visits;
        capability = reported_cap f.has_capability f.capability;
      } in (
        e,
        (
          x,
          record {
            held = h.held;
            survey = record {
              value = h.are.value;
              is = h.are.is;
              pays = h.are.pays;
              counts = h.are.counts;
              capability = h.are.capability;
            };
          },
          a,
        ),
      )

-- ---- the clauses of a call on segments

module _ {L T : Type 0} (m : List (List ℕ)) (limits : Bounds) (s : ℕ) (r : CapnReport)
    (of_limits : (s ≡ 3) ↔ (L → ⊥)) (of_tariff : (s ≡ 4) ↔ (L × (T → ⊥)))
    (blank : 1 ≤ s → s ≤ 4 → r ≡ at_number 0) (possible : (s ≡ 0) ⊎ (s ≡ 3) ⊎ (s ≡ 4) ⊎ (8 ≤ s)) where
  told_held : (done : ℕ → CapnReport → Type 0) (reason : Refusal → Type 0) → (s ≡ 0 → done s r)
      → (5 ≤ s → (e : Refusal) × Reports s r e × reason e) → IsTold code report_of (WrongLimits L T) done reason s r
  told_held done reason found refused =
      told_limits s r of_limits of_tariff (λ a b. blank (omega (arith, a)) b) code report_of done reason
      (kinds_limits s _ _ found (λ k. reported_by reason s r (refused (omega (arith, k)))) possible)

  pub survey_held_clauses : (s ≡ 0 → (x : Surveyed) × SurveysHeld m limits x × (r ≡ answered 0 x.paid x.visits))
      → (5 ≤ s → (e : Refusal) × Reports s r e × IsUnacceptedHeld m limits e)
      → IsTold code report_of (WrongLimits L T) (IsSurveyHeldTold m limits) (IsUnacceptedHeld m limits) s r
  survey_held_clauses found refused =
      told_held (IsSurveyHeldTold m limits) (IsUnacceptedHeld m limits) (λ e. (e, found e)) refused

  pub figures_held_clauses : (f : CapnFigures) → (s ≡ 0 → FiguresHeld m limits f × (r ≡ answered 0 f.paid f.visits))
      → (5 ≤ s → (e : Refusal) × Reports s r e × IsUnacceptedHeld m limits e)
      → IsTold code report_of (WrongLimits L T) (IsSurveyHeldTold m limits) (IsUnacceptedHeld m limits) s r
  figures_held_clauses f found refused =
      told_held (IsSurveyHeldTold m limits) (IsUnacceptedHeld m limits)
      (λ e. let h = found e in figures_held_told m limits s r f e h.0 h.1) refused

  pub price_held_clauses : (d : List ℕ)
      → (s ≡ 0 → (text : List ℕ) × AnswersHeld m limits text r.paid × (d ≡ sha256 text))
      → (s ≡ 0 → r ≡ answered 0 r.paid 0) → (5 ≤ s → (e : Refusal) × Reports s r e × IsRefusedHeld m limits e)
      → IsTold code report_of (WrongLimits L T) (IsPriceHeldTold m limits) (IsRefusedHeld m limits) s r
  price_held_clauses d found rest refused =
      told_held (IsPriceHeldTold m limits) (IsRefusedHeld m limits)
      (λ e. let h = found e in (e, (h.0, h.1), rest e)) refused
