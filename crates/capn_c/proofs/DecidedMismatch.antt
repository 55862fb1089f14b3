-- The clauses of `capn_departure` allow one status, one report and one mismatch for each input, and status 8. (For
-- `path_decision.rt`.)
use Rattle.std.proofs.Common.{◌≡◌, ◌⊎◌, ◌↔◌, ◌-◌, ◌*◌, ◌≤◌, ℕ, inl, inr, List, length, refl, ap, sym, subst, ◌∙◌, arith}
use Rattle.std.proofs.Common.{eq-zero-or-pos}
use Rattle.std.specs.declared.alloc.Global.{Global}
use Rattle.capn_walk.specs.Limits.{AreLimits, Bounds}
use Rattle.capn_walk.specs.declared.survey_answer.Surveyed.{Surveyed}
use Rattle.capn_canon.specs.Refusal.{IsUnacceptedIn}
use Rattle.capn_canon.specs.SurveyedBytes.{Surveys}
use Rattle.capn_canon.specs.declared.form.Form.{Form}
use Rattle.capn_canon.specs.declared.refusal.Refusal.{Refusal}
use Rattle.capn_canon.specs.declared.refusal.Refusal.TheVariants as refusals
use Rattle.capn_canon.proofs.shared.NotUnaccepted.{not_unaccepted}
use Rattle.capn_canon.proofs.shared.OneReading.{is_message, one_message}
use Rattle.capn_mismatch.specs.declared.answer.Mismatch.{Mismatch}
use Rattle.capn_mismatch.specs.declared.answer.Mismatch.TheVariants.{Canonical, Segments, Capability, Word, After}
use Rattle.capn_mismatch.specs.declared.whose.Whose.{Whose}
use Rattle.capn_mismatch.specs.declared.whose.Whose.TheVariants.{Pointer, Tag, LastWord}
use Rattle.capn_mismatch.specs.Laws.{IsSameMismatch, IsSameOwner, MismatchesAreOne}
use Rattle.capn_mismatch.specs.Mismatches.{IsMismatch}
use Rattle.capn_answers.specs.Mismatches.{IsMismatchIn, owner_path, path_of}
use Rattle.capn_abi.specs.StatusCodes.{Reports, answered, at_number, code, report_of}
use Rattle.capn_abi.specs.declared.report.CapnReport.{CapnReport}
use Rattle.capn_c.specs.Decision.{Agree}
use Rattle.capn_c.specs.Departed.{TellsMismatch, departed_of, owner_number}
use Rattle.capn_c.specs.declared.departed.CapnDeparted.{CapnDeparted}
use Rattle.capn_c.proofs.Decided.{IsTold, Wrong, agreed, kinds, reported_by, told}
use Rattle.capn_c.proofs.DecidedAnswers.{one_price_and_visits, one_unaccepted}

-- ---- the same mismatch is told in the same way

module _ {A : Type 0} where
  same_owner_path : (a b : Whose A) → IsSameOwner a b → owner_path a ≡ owner_path b
  same_owner_path (Pointer path) (Pointer other) h = h
  same_owner_path (Tag path) (Tag other) h = h
  same_owner_path (LastWord path) (LastWord other) h = h
  same_owner_path a b h = absurd h

  same_number : (a b : Whose A) → IsSameOwner a b → owner_number a ≡ owner_number b
  same_number (Pointer path) (Pointer other) h = refl
  same_number (Tag path) (Tag other) h = refl
  same_number (LastWord path) (LastWord other) h = refl
  same_number a b h = absurd h

  same_path : (d e : Mismatch A) → IsSameMismatch d e → path_of d ≡ path_of e
  same_path Canonical Canonical h = refl
  same_path (Segments n) (Segments k) h = refl
  same_path (Capability n path) (Capability k other) h = h.1
  same_path (Word w is c whose) (Word k x b other) h = same_owner_path whose other h.3
  same_path (After w is) (After k x) h = refl
  same_path d e h = absurd h

  same_departed : (d e : Mismatch A) → IsSameMismatch d e → departed_of d ≡ departed_of e
  same_departed Canonical Canonical h = refl
  same_departed (Segments n) (Segments k) h = ap (λ (x : ℕ). departed_of {A = A} (Segments x)) h
  same_departed (Capability n path) (Capability k other) h = λ i. record {
    is = 0;
    canonical = 0;
    kind = 2;
    owner = 0;
    word = 0;
    count = h.0 i;
    numbers = length (h.1 i);
    zero = 0;
  }
  same_departed (Word w is c whose) (Word k x b other) h =
      let n = same_number whose other h.3 in
      let p = same_owner_path whose other h.3 in λ i. record {
        is = h.1 i;
        canonical = h.2 i;
        kind = 3;
        owner = n i;
        word = h.0 i;
        count = 0;
        numbers = length (p i);
        zero = 0;
      }
  same_departed (After w is) (After k x) h = λ i. record {
    is = h.1 i;
    canonical = 0;
    kind = 4;
    owner = 0;
    word = h.0 i;
    count = 0;
    numbers = 0;
    zero = 0;
  }
  same_departed d e h = absurd h

-- ---- the limits of an answer are in their ranges

not_above : (a b : ℕ) → ((a ≤ b → ⊥) → ⊥) → a ≤ b
not_above a b h = elim (eq-zero-or-pos (a - b)) [
  | inl z ↦ omega (arith, z)
  | inr p ↦ absurd (h (λ l. omega (arith, p, l)))
]

pub are_limits : (words budget depth : ℕ) → ((AreLimits words budget depth → ⊥) → ⊥) → AreLimits words budget depth
are_limits words budget depth h = record {
  some_words = not_above _ _ (λ n. h (λ a. n a.some_words));
  few_words = not_above _ _ (λ n. h (λ a. n a.few_words));
  small_budget = not_above _ _ (λ n. h (λ a. n a.small_budget));
  some_depth = not_above _ _ (λ n. h (λ a. n a.some_depth));
  small_depth = not_above _ _ (λ n. h (λ a. n a.small_depth));
}

-- ---- the answers

-- `bs` are accepted, and `r` has the length of the path of their mismatch, the price and the number of visits.
abbrev pub IsDepartureTold : Form → List ℕ → Bounds → ℕ → CapnReport → Type 0
IsDepartureTold form bs limits s r = (s ≡ 0) × AreLimits limits.message_words limits.budget limits.depth
    × ((d : Mismatch Global) × (x : Surveyed) × IsMismatchIn form bs limits d × Surveys form bs limits x
    × (r ≡ answered (4 * length (path_of d)) x.paid x.visits))

module _ (law : MismatchesAreOne Global) (form : Form) (bs : List ℕ) (limits : Bounds) where
  one_mismatch : (d e : Mismatch Global) → AreLimits limits.message_words limits.budget limits.depth
      → IsMismatchIn form bs limits d → IsMismatchIn form bs limits e → IsSameMismatch d e
  one_mismatch d e are h k =
      let same = one_message form bs limits.message_words k.message h.message k.reads h.reads in
      law h.message limits d e (is_message form bs limits.message_words h.message are.few_words h.reads) are h.is
      (subst (λ (m : List (List ℕ)). IsMismatch m limits e) same k.is)

  pub one_departed : (x y : CapnDeparted) (r q : CapnReport) (old new was is : List ℕ)
      → AreLimits limits.message_words limits.budget limits.depth → TellsMismatch form bs limits x r old new
      → TellsMismatch form bs limits y q was is → x ≡ y
  one_departed x y r q old new was is are h k =
      h.told ∙ same_departed h.mismatch k.mismatch (one_mismatch h.mismatch k.mismatch are h.is k.is) ∙ sym k.told

  one_departure : (s t : ℕ) (r q : CapnReport) → IsDepartureTold form bs limits s r
      → IsDepartureTold form bs limits t q → (s ≡ t) × (r ≡ q)
  one_departure s t r q (u, are, (d, x, i, h, a)) (v, also, (e, y, j, k, b)) =
      let same = one_price_and_visits form bs limits x y h k in
      let path = same_path d e (one_mismatch d e are i j) in (
        u ∙ sym v,
        a ∙ ap (λ (p : List ℕ). answered (4 * length p) x.paid x.visits) path
            ∙ ap (λ (n : ℕ). answered (4 * length (path_of e)) n x.visits) same.0
            ∙ ap (λ (n : ℕ). answered (4 * length (path_of e)) y.paid n) same.1
            ∙ sym b,
      )

  departure_apart : (s : ℕ) (r : CapnReport) (e : Refusal) → IsDepartureTold form bs limits s r
      → IsUnacceptedIn form bs limits e → e ≡ refusals.Memory
  departure_apart s r e (u, are, (d, x, i, h, a)) w =
      not_unaccepted form bs limits h.survey.value e
      (record { message = h.message; reads = h.reads; value = h.survey.is }) w

  pub departures_agree : (wrong : ℕ → Type 0) (s t : ℕ) (r q : CapnReport)
      → IsTold code report_of wrong (IsDepartureTold form bs limits) (IsUnacceptedIn form bs limits) s r
      → IsTold code report_of wrong (IsDepartureTold form bs limits) (IsUnacceptedIn form bs limits) t q
      → Agree s r t q
  departures_agree wrong s t r q h k =
      agreed code report_of refusals.Memory wrong (IsDepartureTold form bs limits) (IsUnacceptedIn form bs limits) refl
      one_departure departure_apart (one_unaccepted form bs limits) s t r q h k

-- ---- the clauses of the call

module _ {F T : Type 0} (form : Form) (bs : List ℕ) (limits : Bounds) (s : ℕ) (r : CapnReport)
    (of_form : (s ≡ 2) ↔ (F → ⊥))
    (of_limits : (s ≡ 3) ↔ (F × (AreLimits limits.message_words limits.budget limits.depth → ⊥)))
    (of_tariff : (s ≡ 4) ↔ (F × AreLimits limits.message_words limits.budget limits.depth × (T → ⊥)))
    (blank : 1 ≤ s → s ≤ 4 → r ≡ at_number 0)
    (possible : (s ≡ 0) ⊎ (s ≡ 2) ⊎ (s ≡ 3) ⊎ (s ≡ 4) ⊎ (8 ≤ s)) where
  pub in_limits : s ≡ 0 → AreLimits limits.message_words limits.budget limits.depth
  in_limits e =
      are_limits limits.message_words limits.budget limits.depth (λ n.
      let two : s ≡ 2 = of_form.1 (λ f. let three : s ≡ 3 = of_limits.1 (f, n) in omega (arith, e)) in omega (arith, e))

  pub departure_clauses : (departed : CapnDeparted) (old new : List ℕ)
      → (s ≡ 0 → TellsMismatch form bs limits departed r old new)
      → (5 ≤ s → (e : Refusal) × Reports s r e × IsUnacceptedIn form bs limits e)
      → IsTold code report_of (Wrong F (AreLimits limits.message_words limits.budget limits.depth) T)
      (IsDepartureTold form bs limits) (IsUnacceptedIn form bs limits) s r
  departure_clauses departed old new found refused =
      told s r of_form of_limits of_tariff (λ a b. blank (omega (arith, a)) b) code report_of
      (IsDepartureTold form bs limits) (IsUnacceptedIn form bs limits)
      (kinds s _ _ (λ e. let h = found e in (e, in_limits e, (h.mismatch, h.survey, h.is, h.surveys, h.report_is)))
      (λ k. reported_by (IsUnacceptedIn form bs limits) s r (refused (omega (arith, k)))) possible)
