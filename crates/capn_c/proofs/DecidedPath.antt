-- The clauses of `capn_refusal_way` allow one status and one report for each input, and status 8. (For `decision.rt`.)
use Rattle.std.proofs.Common.{◌≡◌, ◌⊎◌, ◌↔◌, ◌-◌, ◌*◌, ◌<◌, ◌≤◌, ℕ, inl, inr, List, length, refl, ap, sym}
use Rattle.std.proofs.Common.{subst, ◌∙◌, arith, eq-zero-or-pos}
use Rattle.capn_target.specs.declared.target.Fault.{Fault}
use Rattle.capn_target.specs.declared.target.Fault.TheVariants as walk
use Rattle.capn_walk.specs.Limits.{Bounds}
use Rattle.capn_walk.specs.declared.survey_answer.Surveyed.{Surveyed}
use Rattle.capn_walk.specs.declared.walk_answer.Stopped.{Stopped}
use Rattle.capn_path.specs.Laws.{PathsAreOne}
use Rattle.capn_path.specs.Paths.{IsRefusedAt}
use Rattle.capn_canon.specs.Refusal.{IsUnacceptedIn}
use Rattle.capn_canon.specs.SurveyedBytes.{Surveys}
use Rattle.capn_canon.specs.declared.form.Form.{Form}
use Rattle.capn_canon.specs.declared.refusal.Refusal.{Refusal}
use Rattle.capn_canon.specs.declared.refusal.Refusal.TheVariants as refusals
use Rattle.capn_canon.proofs.shared.NotUnaccepted.{not_unaccepted}
use Rattle.capn_canon.proofs.shared.OneReading.{one_message}
use Rattle.capn_answers.specs.Paths.{IsStoppedIn}
use Rattle.capn_abi.specs.StatusCodes.{Reports, answered, at_number, code, report_of, walk_code}
use Rattle.capn_abi.specs.declared.report.CapnReport.{CapnReport}
use Rattle.capn_c.specs.Decision.{Agree}
use Rattle.capn_c.specs.PathNumbers.{TellsPath, with_length}
use Rattle.capn_c.proofs.Decided.{IsTold, Wrong, agreed, kinds, told}
use Rattle.capn_c.proofs.DecidedAnswers.{IsSurveyTold, one_price_and_visits, one_unaccepted}
use Rattle.capn_c.proofs.OutOfMemory.{stopped_memory}

-- A refusal, and the length that is reported with it.
pub record Located : Type 0 where
  pub refusal : Refusal
  pub long : ℕ

same_located : (e f : Located) → e.refusal ≡ f.refusal → e.long ≡ f.long → e ≡ f
same_located e f a b = λ i. record { refusal = a i; long = b i }

abbrev pub located_code : Located → ℕ
located_code e = code e.refusal

abbrev pub located_report : Located → CapnReport
located_report e = with_length e.long (report_of e.refusal)

abbrev pub out_of_memory : Located
out_of_memory = record { refusal = refusals.Memory; long = 0 }

-- `e` says why `bs` are no message, or where the walk of the message stops, with the length of the path to that place.
abbrev pub IsLocated : Form → List ℕ → Bounds → Located → Type 0
IsLocated form bs limits e = (IsUnacceptedIn form bs limits e.refusal × (e.long ≡ 0) × (code e.refusal < 64))
    ⊎ ((x : Stopped) × (numbers : List ℕ) × (e.refusal ≡ refusals.Walk x) × (e.long ≡ 4 * length numbers)
    × IsStoppedIn form bs limits x numbers)

low_or_high : (e : Fault) → (walk_code e ≡ 8) ⊎ (64 ≤ walk_code e)
low_or_high walk.NoRoot = inr (omega arith)
low_or_high walk.RootKind = inr (omega arith)
low_or_high walk.Reserved = inr (omega arith)
low_or_high walk.NoSegment = inr (omega arith)
low_or_high walk.PadRange = inr (omega arith)
low_or_high walk.BadPad = inr (omega arith)
low_or_high walk.Range = inr (omega arith)
low_or_high walk.BadTag = inr (omega arith)
low_or_high walk.TagOverrun = inr (omega arith)
low_or_high walk.TooDeep = inr (omega arith)
low_or_high walk.OverBudget = inr (omega arith)
low_or_high walk.Memory = inl refl

module _ (law : PathsAreOne) (form : Form) (bs : List ℕ) (limits : Bounds) where
  stopped_high : (x : Stopped) (numbers : List ℕ) → IsStoppedIn form bs limits x numbers → 64 ≤ walk_code x.fault
  stopped_high x numbers h = elim (low_or_high x.fault) [
    | inl e ↦ absurd (stopped_memory h.message limits x h.at.refused e)
    | inr k ↦ k
  ]

  one_path : (x : Stopped) (m : List (List ℕ)) (a b : List ℕ) → IsRefusedAt m limits x a → IsRefusedAt m limits x b
      → a ≡ b
  one_path x m a b h k = elim (eq-zero-or-pos x.visits) [
    | inl z ↦ h.none z ∙ sym (k.none z)
    | inr p ↦ (law m limits (x.visits - 1) a b x.place x.place (h.leads p) (k.leads p)).0
  ]

  one_way : (x y : Stopped) (a b : List ℕ) → x ≡ y → IsStoppedIn form bs limits x a → IsStoppedIn form bs limits y b
      → a ≡ b
  one_way x y a b e h k =
      let same = one_message form bs limits.message_words k.message h.message k.reads h.reads in
      let at : IsRefusedAt h.message limits y b =
      subst (λ (m : List (List ℕ)). IsRefusedAt m limits y b) same k.at in
      one_path x h.message a b h.at (subst (λ (z : Stopped). IsRefusedAt h.message limits z b) (sym e) at)

  stopped_unaccepted : (e : Refusal) (x : Stopped) (numbers : List ℕ) → e ≡ refusals.Walk x
      → IsStoppedIn form bs limits x numbers → IsUnacceptedIn form bs limits e
  stopped_unaccepted e x numbers is h =
      let w : IsUnacceptedIn form bs limits (refusals.Walk x) = (h.message, h.reads, h.at.refused) in
      subst (λ (z : Refusal). IsUnacceptedIn form bs limits z) (sym is) w

  located_unaccepted : (e : Located) → IsLocated form bs limits e → IsUnacceptedIn form bs limits e.refusal
  located_unaccepted e (inl w) = w.0
  located_unaccepted e (inr (x, numbers, is, long, h)) = stopped_unaccepted e.refusal x numbers is h

  not_memory : (e : Located) → (e ≡ out_of_memory → ⊥) → IsLocated form bs limits e → e.refusal ≡ refusals.Memory → ⊥
  not_memory e n (inl w) m = n (same_located e out_of_memory m w.1)
  not_memory e n (inr (x, numbers, is, long, h)) m = let a : refusals.Memory ≡ refusals.Walk x = sym m ∙ is in absurd cc

  one_long : (e f : Located) → e.refusal ≡ f.refusal → IsLocated form bs limits e → IsLocated form bs limits f
      → e.long ≡ f.long
  one_long e f same (inl w) (inl v) = w.1 ∙ sym v.1
  one_long e f same (inl w) (inr (y, b, is, long, k)) =
      let high = stopped_high y b k in absurd (omega (arith, ap code (same ∙ is), w.2, high))
  one_long e f same (inr (x, a, is, long, h)) (inl v) =
      let high = stopped_high x a h in absurd (omega (arith, ap code (sym same ∙ is), v.2, high))
  one_long e f same (inr (x, a, is, long, h)) (inr (y, b, also, other, k)) =
      let walks : refusals.Walk x ≡ refusals.Walk y = sym is ∙ same ∙ also in
      let stops : x ≡ y = cc in
      long ∙ ap (λ (l : List ℕ). 4 * length l) (one_way x y a b stops h k) ∙ sym other

  one_located : (e f : Located) → (e ≡ out_of_memory → ⊥) → (f ≡ out_of_memory → ⊥) → IsLocated form bs limits e
      → IsLocated form bs limits f → e ≡ f
  one_located e f ne nf w v =
      let same = one_unaccepted form bs limits e.refusal f.refusal (not_memory e ne w) (not_memory f nf v)
      (located_unaccepted e w) (located_unaccepted f v) in
      same_located e f same (one_long e f same w v)

  one_told : (s t : ℕ) (r q : CapnReport) → IsSurveyTold form bs limits s r → IsSurveyTold form bs limits t q
      → (s ≡ t) × (r ≡ q)
  one_told s t r q (e, (x, h, a)) (f, (y, k, b)) =
      let same = one_price_and_visits form bs limits x y h k in (
        e ∙ sym f,
        a ∙ ap (λ (n : ℕ). answered 0 n x.visits) same.0 ∙ ap (λ (n : ℕ). answered 0 y.paid n) same.1 ∙ sym b,
      )

  located_apart : (s : ℕ) (r : CapnReport) (e : Located) → IsSurveyTold form bs limits s r → IsLocated form bs limits e
      → e ≡ out_of_memory
  located_apart s r e (is, (x, h, a)) (inl w) =
      let m = not_unaccepted form bs limits h.survey.value e.refusal
      (record { message = h.message; reads = h.reads; value = h.survey.is }) w.0 in
      same_located e out_of_memory m w.1
  located_apart s r e (is, (x, h, a)) (inr (y, numbers, walks, long, k)) =
      let m = not_unaccepted form bs limits h.survey.value e.refusal
      (record { message = h.message; reads = h.reads; value = h.survey.is })
      (stopped_unaccepted e.refusal y numbers walks k) in
      let b : refusals.Memory ≡ refusals.Walk y = sym m ∙ walks in absurd cc

  pub ways_agree : (wrong : ℕ → Type 0) (s t : ℕ) (r q : CapnReport)
      → IsTold located_code located_report wrong (IsSurveyTold form bs limits) (IsLocated form bs limits) s r
      → IsTold located_code located_report wrong (IsSurveyTold form bs limits) (IsLocated form bs limits) t q
      → Agree s r t q
  ways_agree wrong s t r q h k =
      agreed located_code located_report out_of_memory wrong (IsSurveyTold form bs limits) (IsLocated form bs limits)
      refl one_told located_apart one_located s t r q h k

no_length : (e : Refusal) → report_of e ≡ with_length 0 (report_of e)
no_length (refusals.Bare e) = refl
no_length (refusals.Packed e) = refl
no_length (refusals.Frame e) = refl
no_length (refusals.Trailing at) = refl
no_length (refusals.Walk s) = refl
no_length (refusals.Capability k) = refl
no_length refusals.Memory = refl

lengthened : (r : CapnReport) (n : ℕ) → r.length ≡ n → r ≡ with_length n (with_length 0 r)
lengthened r n e =
    λ i. record { length = e i; at = r.at; segment = r.segment; word = r.word; paid = r.paid; visits = r.visits }

low_or_64 : (s : ℕ) → (s < 64) ⊎ (64 ≤ s)
low_or_64 s = elim (eq-zero-or-pos (64 - s)) [ inl z ↦ inr (omega (arith, z)) | inr p ↦ inl (omega (arith, p)) ]

module _ {F L T : Type 0} (form : Form) (bs : List ℕ) (limits : Bounds) (s : ℕ) (r : CapnReport)
    (of_form : (s ≡ 2) ↔ (F → ⊥)) (of_limits : (s ≡ 3) ↔ (F × (L → ⊥))) (of_tariff : (s ≡ 4) ↔ (F × L × (T → ⊥)))
    (blank : 1 ≤ s → s ≤ 4 → r ≡ at_number 0)
    (possible : (s ≡ 0) ⊎ (s ≡ 2) ⊎ (s ≡ 3) ⊎ (s ≡ 4) ⊎ (8 ≤ s)) where
  pub way_clauses : (old new : List ℕ)
      → (s ≡ 0 → (x : Surveyed) × Surveys form bs limits x × (r ≡ answered 0 x.paid x.visits))
      → (5 ≤ s → s < 64 → (e : Refusal) × Reports s r e × IsUnacceptedIn form bs limits e)
      → (64 ≤ s → (x : Stopped) × (numbers : List ℕ) × IsStoppedIn form bs limits x numbers
      × TellsPath s r x numbers old new)
      → IsTold located_code located_report (Wrong F L T) (IsSurveyTold form bs limits) (IsLocated form bs limits) s r
  way_clauses old new found refused stopped =
      let located : 8 ≤ s → (e : Located) × (s ≡ located_code e) × (r ≡ located_report e) × IsLocated form bs limits e =
      λ k. elim (low_or_64 s) [
        | inl low ↦
            let h = refused (omega (arith, k)) low in (
              record { refusal = h.0; long = 0 },
              h.1.status_is,
              h.1.report_is ∙ no_length h.0,
              inl (h.2, refl, omega (arith, h.1.status_is, low)),
            )
        | inr high ↦
            let h = stopped high in (
              record { refusal = refusals.Walk h.0; long = 4 * length h.1 },
              h.3.reports.status_is,
              lengthened r (4 * length h.1) h.3.long
                  ∙ ap (λ (q : CapnReport). with_length (4 * length h.1) q) h.3.reports.report_is,
              inr (h.0, h.1, refl, refl, h.2),
            )
      ] in
      told s r of_form of_limits of_tariff (λ a b. blank (omega (arith, a)) b) located_code located_report
      (IsSurveyTold form bs limits) (IsLocated form bs limits) (kinds s _ _ (λ e. (e, found e)) located possible)
