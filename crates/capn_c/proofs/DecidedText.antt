-- The clauses of `capn_show` and of `capn_same` allow one status and one report for each input, and status 8. (For
-- `decision.rt`.)
use Rattle.std.proofs.Common.{◌≡◌, ◌≢◌, ◌⊎◌, ◌↔◌, ◌≤◌, ℕ, zero, suc, inl, inr, List, None, Bool, true, false}
use Rattle.std.proofs.Common.{length, refl, ap, sym, subst, ◌∙◌, arith}
use Rattle.capn_value.specs.Tree.{Tree}
use Rattle.capn_value.specs.FirstCap.{first_cap}
use Rattle.capn_value.specs.Same.{Same}
use Rattle.capn_show.specs.declared.style.Style.{Style}
use Rattle.capn_walk.specs.Limits.{Bounds}
use Rattle.capn_walk.specs.declared.survey_answer.Surveyed.{Surveyed}
use Rattle.capn_canon.specs.Denotes.{Denotes}
use Rattle.capn_canon.specs.Refusal.{IsRefused, IsUnacceptedIn}
use Rattle.capn_canon.specs.SurveyedBytes.{Surveys}
use Rattle.capn_canon.specs.declared.form.Form.{Form}
use Rattle.capn_canon.specs.declared.refusal.Refusal.{Refusal}
use Rattle.capn_canon.specs.declared.refusal.Refusal.TheVariants as refusals
use Rattle.capn_canon.proofs.shared.NotRefused.{not_refused}
use Rattle.capn_canon.proofs.shared.NotUnaccepted.{not_unaccepted}
use Rattle.capn_canon.proofs.shared.OneReading.{one_value}
use Rattle.capn_canon.proofs.shared.OneRefusal.{one_refusal}
use Rattle.capn_abi.specs.Calls.{Delivers}
use Rattle.capn_abi.specs.StatusCodes.{Reports, answered, at_number, code, report_of}
use Rattle.capn_abi.specs.declared.report.CapnReport.{CapnReport}
use Rattle.capn_c.specs.Compared.{ComparesIn, named}
use Rattle.capn_c.specs.Decision.{Agree}
use Rattle.capn_c.specs.Shown.{ShowsIn, message_text}
use Rattle.capn_c.proofs.Decided.{IsTold, Wrong, agreed, reported_by, told}
use Rattle.capn_c.proofs.DecidedAnswers.{one_price_and_visits, one_unaccepted}
use Rattle.capn_c.proofs.DecidedRoom.{IsRoom, delivers_room, one_room}

-- ---- a text

-- The text of `bs` has the length in `r`, and `s` says whether a buffer of the length `n` has room for it.
abbrev pub IsShownTold : Form → List ℕ → Bounds → Style → ℕ → ℕ → CapnReport → Type 0
IsShownTold form bs limits style n s r =
    ((text : List ℕ) × ShowsIn form bs limits style text × (r.length ≡ length text) × IsRoom n (length text) s)
    × ((x : Surveyed) × Surveys form bs limits x × (r ≡ answered r.length x.paid x.visits))

-- The status `n` is that of the first argument that is out of its range, for a call with a style.
abbrev pub WrongStyle : (F L T S : Type 0) → ℕ → Type 0
WrongStyle F L T S n = Wrong F L T n ⊎ ((n ≡ 6) × (F × L × T × (S → ⊥)))

module _ (form : Form) (bs : List ℕ) (limits : Bounds) (style : Style) (n : ℕ) where
  one_shown : (s t : ℕ) (r q : CapnReport) → IsShownTold form bs limits style n s r
      → IsShownTold form bs limits style n t q → (s ≡ t) × (r ≡ q)
  one_shown s t r q ((a, h, l, i), (x, sx, e)) ((b, k, o, j), (y, sy, f)) =
      let value = one_value form bs limits h.value k.value h.denotes k.denotes in
      let texts : a ≡ b = h.same ∙ ap (λ (v : Tree). message_text style v) value ∙ sym k.same in
      let same = one_price_and_visits form bs limits x y sx sy in
      let sizes : r.length ≡ q.length = l ∙ ap length texts ∙ sym o in (
        one_room n (length a) (length b) s t (ap length texts) i j,
        e ∙ ap (λ (z : ℕ). answered z x.paid x.visits) sizes
            ∙ ap (λ (z : ℕ). answered q.length z x.visits) same.0
            ∙ ap (λ (z : ℕ). answered q.length y.paid z) same.1
            ∙ sym f,
      )

  shown_apart : (s : ℕ) (r : CapnReport) (e : Refusal) → IsShownTold form bs limits style n s r
      → IsUnacceptedIn form bs limits e → e ≡ refusals.Memory
  shown_apart s r e ((a, h, l, i), told_by) w = not_unaccepted form bs limits h.value e h.denotes w

  pub shown_agree : (wrong : ℕ → Type 0) (s t : ℕ) (r q : CapnReport)
      → IsTold code report_of wrong (IsShownTold form bs limits style n) (IsUnacceptedIn form bs limits) s r
      → IsTold code report_of wrong (IsShownTold form bs limits style n) (IsUnacceptedIn form bs limits) t q
      → Agree s r t q
  shown_agree wrong s t r q h k =
      agreed code report_of refusals.Memory wrong (IsShownTold form bs limits style n) (IsUnacceptedIn form bs limits)
      refl one_shown shown_apart (one_unaccepted form bs limits) s t r q h k

module _ {F L T S : Type 0} (s : ℕ) (r : CapnReport) (of_form : (s ≡ 2) ↔ (F → ⊥))
    (of_limits : (s ≡ 3) ↔ (F × (L → ⊥))) (of_tariff : (s ≡ 4) ↔ (F × L × (T → ⊥)))
    (of_style : (s ≡ 6) ↔ (F × L × T × (S → ⊥))) (blank : 2 ≤ s → s ≤ 6 → r ≡ at_number 0) where
  only_style : (n : ℕ) → WrongStyle F L T S n → (s ≡ n) × (r ≡ at_number 0)
  only_style n (inl (inl (is, w))) =
      let e : s ≡ 2 = of_form.1 w in (e ∙ sym is, blank (omega (arith, e)) (omega (arith, e)))
  only_style n (inl (inr (inl (is, w)))) =
      let e : s ≡ 3 = of_limits.1 w in (e ∙ sym is, blank (omega (arith, e)) (omega (arith, e)))
  only_style n (inl (inr (inr (is, w)))) =
      let e : s ≡ 4 = of_tariff.1 w in (e ∙ sym is, blank (omega (arith, e)) (omega (arith, e)))
  only_style n (inr (is, w)) =
      let e : s ≡ 6 = of_style.1 w in (e ∙ sym is, blank (omega (arith, e)) (omega (arith, e)))

  each_style : (D R : Type 0) → D ⊎ ((s ≡ 2) ⊎ (s ≡ 3) ⊎ (s ≡ 4) ⊎ (s ≡ 6)) ⊎ R → WrongStyle F L T S s ⊎ D ⊎ R
  each_style D R (inl d) = inr (inl d)
  each_style D R (inr (inl (inl e))) = inl (inl (inl (e, of_form.0 e)))
  each_style D R (inr (inl (inr (inl e)))) = inl (inl (inr (inl (e, of_limits.0 e))))
  each_style D R (inr (inl (inr (inr (inl e))))) = inl (inl (inr (inr (e, of_tariff.0 e))))
  each_style D R (inr (inl (inr (inr (inr e))))) = inl (inr (e, of_style.0 e))
  each_style D R (inr (inr k)) = inr (inr k)

kinds_style : (s : ℕ) (D R : Type 0) → (s ≤ 1 → D) → (5 ≤ s → s ≢ 6 → R)
    → D ⊎ ((s ≡ 2) ⊎ (s ≡ 3) ⊎ (s ≡ 4) ⊎ (s ≡ 6)) ⊎ R
kinds_style zero D R found refused = inl (found (omega arith))
kinds_style (suc zero) D R found refused = inl (found (omega arith))
kinds_style (suc (suc zero)) D R found refused = inr (inl (inl (omega arith)))
kinds_style (suc (suc (suc zero))) D R found refused = inr (inl (inr (inl (omega arith))))
kinds_style (suc (suc (suc (suc zero)))) D R found refused = inr (inl (inr (inr (inl (omega arith)))))
kinds_style (suc (suc (suc (suc (suc zero))))) D R found refused =
    inr (inr (refused (omega arith) (λ e. absurd (omega (arith, e)))))
kinds_style (suc (suc (suc (suc (suc (suc zero)))))) D R found refused = inr (inl (inr (inr (inr (omega arith)))))
kinds_style (suc (suc (suc (suc (suc (suc (suc n))))))) D R found refused =
    inr (inr (refused (omega arith) (λ e. absurd (omega (arith, e)))))

module _ {F L T S : Type 0} (form : Form) (bs : List ℕ) (limits : Bounds) (style : Style) (n s : ℕ) (r : CapnReport)
    (of_form : (s ≡ 2) ↔ (F → ⊥)) (of_limits : (s ≡ 3) ↔ (F × (L → ⊥))) (of_tariff : (s ≡ 4) ↔ (F × L × (T → ⊥)))
    (of_style : (s ≡ 6) ↔ (F × L × T × (S → ⊥))) (blank : 2 ≤ s → s ≤ 6 → r ≡ at_number 0) where
  pub shown_clauses : (old new : List ℕ) → length old ≡ n → length new ≡ n
      → (s ≤ 1 → (text : List ℕ) × ShowsIn form bs limits style text × Delivers text s r.length old new)
      → (s ≤ 1 → (x : Surveyed) × Surveys form bs limits x × (r ≡ answered r.length x.paid x.visits))
      → (5 ≤ s → s ≢ 6 → (e : Refusal) × Reports s r e × IsUnacceptedIn form bs limits e)
      → IsTold code report_of (WrongStyle F L T S) (IsShownTold form bs limits style n)
      (IsUnacceptedIn form bs limits) s r
  shown_clauses old new o w found rest refused =
      let done : s ≤ 1 → IsShownTold form bs limits style n s r =
      λ e.
      let h = found e in
      ((h.0, h.1, h.2.length_is, delivers_room n h.0 s r.length old new o w h.2), rest e) in
      record {
        only = only_style s r of_form of_limits of_tariff of_style blank;
        each = each_style s r of_form of_limits of_tariff of_style blank _ _
            (kinds_style s _ _ done (λ k z. reported_by (IsUnacceptedIn form bs limits) s r (refused k z)));
      }

-- ---- two messages

-- `s` says whether the values of both messages are the same.
abbrev pub IsComparisonTold : Form → (first second : List ℕ) → Bounds → ℕ → CapnReport → Type 0
IsComparisonTold form first second limits s r = (((s ≡ 0) × ComparesIn form first second limits true)
    ⊎ ((s ≡ 7) × ComparesIn form first second limits false)) × (r ≡ at_number 0)

-- `e` is true of the first message, or the first message has canonical bytes and `e` is true of the second one.
abbrev pub IsRefusedOf : Form → (first second : List ℕ) → Bounds → Refusal → Type 0
IsRefusedOf form first second limits e = IsRefused form first limits e
    ⊎ (((v : Tree) × Denotes form first limits v × (first_cap v ≡ None)) × IsRefused form second limits e)

module _ (form : Form) (first second : List ℕ) (limits : Bounds) where
  never_both : ComparesIn form first second limits true → ComparesIn form first second limits false → ⊥
  never_both h k =
      let one = one_value form first limits h.value k.value h.denoted.one k.denoted.one in
      let other = one_value form second limits h.other k.other h.denoted.other k.denoted.other in
      let same : Same k.value k.other =
      subst (λ (w : Tree). Same k.value w) other (subst (λ (v : Tree). Same v h.other) one (h.same.0 refl)) in
      let e : false ≡ true = k.same.1 same in absurd cc

  one_comparison : (s t : ℕ) (r q : CapnReport) → IsComparisonTold form first second limits s r
      → IsComparisonTold form first second limits t q → (s ≡ t) × (r ≡ q)
  one_comparison s t r q (inl (e, h), a) (inl (f, k), b) = (e ∙ sym f, a ∙ sym b)
  one_comparison s t r q (inl (e, h), a) (inr (f, k), b) = absurd (never_both h k)
  one_comparison s t r q (inr (e, h), a) (inl (f, k), b) = absurd (never_both k h)
  one_comparison s t r q (inr (e, h), a) (inr (f, k), b) = (e ∙ sym f, a ∙ sym b)

  both_apart : (told_as : Bool) (e : Refusal) → ComparesIn form first second limits told_as
      → IsRefusedOf form first second limits e → e ≡ refusals.Memory
  both_apart told_as e h (inl w) = not_refused form first limits h.value e h.denoted.one h.denoted.one_free w
  both_apart told_as e h (inr (v, w)) =
      not_refused form second limits h.other e h.denoted.other h.denoted.other_free w

  comparison_apart : (s : ℕ) (r : CapnReport) (e : Refusal) → IsComparisonTold form first second limits s r
      → IsRefusedOf form first second limits e → e ≡ refusals.Memory
  comparison_apart s r e (inl (is, h), a) w = both_apart true e h w
  comparison_apart s r e (inr (is, h), a) w = both_apart false e h w

  one_of_two : (e f : Refusal) → (e ≡ refusals.Memory → ⊥) → (f ≡ refusals.Memory → ⊥)
      → IsRefusedOf form first second limits e → IsRefusedOf form first second limits f → e ≡ f
  one_of_two e f ne nf (inl w) (inl v) = one_refusal form first limits e f ne nf w v
  one_of_two e f ne nf (inl w) (inr ((v, d, free), u)) = absurd (ne (not_refused form first limits v e d free w))
  one_of_two e f ne nf (inr ((v, d, free), w)) (inl u) = absurd (nf (not_refused form first limits v f d free u))
  one_of_two e f ne nf (inr (a, w)) (inr (b, v)) = one_refusal form second limits e f ne nf w v

  pub comparisons_agree : (wrong : ℕ → Type 0) (s t : ℕ) (r q : CapnReport)
      → IsTold code report_of wrong (IsComparisonTold form first second limits)
      (IsRefusedOf form first second limits) s r
      → IsTold code report_of wrong (IsComparisonTold form first second limits)
      (IsRefusedOf form first second limits) t q → Agree s r t q
  comparisons_agree wrong s t r q h k =
      agreed code report_of refusals.Memory wrong (IsComparisonTold form first second limits)
      (IsRefusedOf form first second limits) refl one_comparison comparison_apart one_of_two s t r q h k

  refused_of : (which : ℕ) (e : Refusal)
      → (which ≢ 0 → (which ≡ 1) × ((v : Tree) × Denotes form first limits v × (first_cap v ≡ None)))
      → IsRefused form (named which first second) limits e → IsRefusedOf form first second limits e
  refused_of zero e h w = inl w
  refused_of (suc n) e h w = inr ((h (λ z. absurd (omega (arith, z)))).1, w)

kinds_same : (s : ℕ) (D R : Type 0) → (s ≡ 0 → D) → (s ≡ 7 → D) → ((s ≡ 1) ⊎ (5 ≤ s) → s ≢ 7 → R)
    → D ⊎ (s ≡ 2) ⊎ (s ≡ 3) ⊎ (s ≡ 4) ⊎ R
kinds_same zero D R same different refused = inl (same refl)
kinds_same (suc zero) D R same different refused =
    inr (inr (inr (inr (refused (inl (omega arith)) (λ e. absurd (omega (arith, e)))))))
kinds_same (suc (suc zero)) D R same different refused = inr (inl (omega arith))
kinds_same (suc (suc (suc zero))) D R same different refused = inr (inr (inl (omega arith)))
kinds_same (suc (suc (suc (suc zero)))) D R same different refused = inr (inr (inr (inl (omega arith))))
kinds_same (suc (suc (suc (suc (suc zero))))) D R same different refused =
    inr (inr (inr (inr (refused (inr (omega arith)) (λ e. absurd (omega (arith, e)))))))
kinds_same (suc (suc (suc (suc (suc (suc zero)))))) D R same different refused =
    inr (inr (inr (inr (refused (inr (omega arith)) (λ e. absurd (omega (arith, e)))))))
kinds_same (suc (suc (suc (suc (suc (suc (suc zero))))))) D R same different refused = inl (different (omega arith))
kinds_same (suc (suc (suc (suc (suc (suc (suc (suc n)))))))) D R same different refused =
    inr (inr (inr (inr (refused (inr (omega arith)) (λ e. absurd (omega (arith, e)))))))

module _ {F L T : Type 0} (form : Form) (first second : List ℕ) (limits : Bounds) (s : ℕ) (r : CapnReport) (which : ℕ)
    (of_form : (s ≡ 2) ↔ (F → ⊥)) (of_limits : (s ≡ 3) ↔ (F × (L → ⊥))) (of_tariff : (s ≡ 4) ↔ (F × L × (T → ⊥)))
    (blank : s ≤ 7 → (which ≡ 0) × (r ≡ at_number 0)) where
  pub comparison_clauses : (s ≡ 0 → ComparesIn form first second limits true)
      → (s ≡ 7 → ComparesIn form first second limits false)
      → ((s ≡ 1) ⊎ (5 ≤ s) → s ≢ 7
      → (e : Refusal) × Reports s r e × IsRefused form (named which first second) limits e)
      → (which ≢ 0 → (which ≡ 1) × ((v : Tree) × Denotes form first limits v × (first_cap v ≡ None)))
      → IsTold code report_of (Wrong F L T) (IsComparisonTold form first second limits)
      (IsRefusedOf form first second limits) s r
  comparison_clauses same different refused other =
      told s r of_form of_limits of_tariff (λ a b. (blank (omega (arith, b))).1) code report_of
      (IsComparisonTold form first second limits) (IsRefusedOf form first second limits)
      (kinds_same s _ _ (λ e. (inl (e, same e), (blank (omega (arith, e))).1))
      (λ e. (inr (e, different e), (blank (omega (arith, e))).1))
      (λ k z.
      let h = refused k z in
      (h.0, h.1.status_is, h.1.report_is, refused_of form first second limits which h.0 other h.2)))
