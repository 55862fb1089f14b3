-- The calls for C that make canonical bytes report what `canonical_into_form` returns. (For `agreement.rt`.)
use Rattle.std.proofs.Common.{◌≡◌, ◌≢◌, ◌⊎◌, ◌≤◌, ◌++◌, ℕ, zero, suc, inl, inr, List, length, drop, refl, ap, sym}
use Rattle.std.proofs.Common.{subst, ◌∙◌, arith}
use Rattle.capn_walk.specs.Limits.{Bounds}
use Rattle.capn_canon.specs.Denotes.{Answers}
use Rattle.capn_canon.specs.declared.form.Form.{Form}
use Rattle.capn_abi.specs.Calls.{Delivers, IsWritten, bounds_of, form_named}
use Rattle.capn_abi.specs.declared.limits.CapnLimits.{CapnLimits}
use Rattle.capn_abi.specs.declared.report.CapnReport.{CapnReport}
use Rattle.capn_c.specs.inner.Lent.{IsLent}
use Rattle.capn_c.proofs.DecidedRoom.{delivers_room, one_answer}
use Rattle.capn_c.proofs.DecidedScratch.{IsScratchTold}

-- The contract holds for the form and the limits that the caller's numbers name.
pub as_named : (n : ℕ) (form : Form) (bs : List ℕ) (c : CapnLimits) (l : Bounds) (scratch : ℕ) (old new : List ℕ)
    (status : ℕ) (report : CapnReport) → form ≡ form_named n → l ≡ bounds_of c
    → IsLent form bs l scratch old new status report
    → IsLent (form_named n) bs (bounds_of c) scratch old new status report
as_named n form bs c l scratch old new status report e f h =
    subst (λ (x : Form). IsLent x bs (bounds_of c) scratch old new status report) e
    (subst (λ (x : Bounds). IsLent form bs x scratch old new status report) f h)

-- ---- the clauses of `capn_canonical_with_scratch` hold of a result of `canonical_into_form`

never : (s k : ℕ) → (s ≤ 1) ⊎ (9 ≤ s) → s ≡ k → 2 ≤ k → k ≤ 8 → ⊥
never s k (inl h) e a b = omega (arith, h, e, a)
never s k (inr h) e a b = omega (arith, h, e, b)

pub told_as : {F L T : Type 0} (f : F) (l : L) (t : T) (form : Form) (bs : List ℕ) (limits : Bounds) (scratch n : ℕ)
    (old new : List ℕ) (s : ℕ) (r : CapnReport) → length old ≡ n → length new ≡ n
    → IsLent form bs limits scratch old new s r
    → IsScratchTold F L T form bs limits limits.message_words scratch n s r
told_as f l t form bs limits scratch n old new s r o w h = record {
  of_form = ((λ e. absurd (never s 2 h.possible e (omega arith) (omega arith))), (λ k. absurd (k f)));
  of_limits = ((λ e. absurd (never s 3 h.possible e (omega arith) (omega arith))), (λ k. absurd (k.1 l)));
  of_tariff = ((λ e. absurd (never s 4 h.possible e (omega arith) (omega arith))), (λ k. absurd (k.2 t)));
  blank = (λ a b. absurd (never s s h.possible refl a (omega (arith, b))));
  found = (λ e.
      let k = h.found e in
      ((k.0, k.1, k.3.length_is, delivers_room n k.0 s r.length old new o w k.3), h.rest e));
  listed = h.listed;
  lacking = h.lacking;
  lacked = (λ a b c k x. h.lacked k x);
  refused = h.refused;
}

-- ---- the buffers

pub written_by : (text : List ℕ) (s size : ℕ) (old new : List ℕ) → Delivers text s size old new → s ≡ 0
    → IsWritten text old new
written_by text s size old new d e = elim d.either [
  | inl h ↦ h.1
  | inr h ↦ absurd (omega (arith, h.0, e))
]

is_zero : (s : ℕ) → (s ≡ 0) ⊎ (s ≢ 0)
is_zero zero = inl refl
is_zero (suc n) = inr (λ e. absurd (omega (arith, e)))

-- Two calls with the same status, and with the same content of the buffer before, leave the same content.
pub same_buffers : (form : Form) (bs : List ℕ) (limits : Bounds) (s t m o : ℕ) (old p q : List ℕ) → s ≡ t
    → (s ≡ 0 → (text : List ℕ) × Answers form bs limits text m × IsWritten text old p)
    → (t ≡ 0 → (text : List ℕ) × Answers form bs limits text o × IsWritten text old q)
    → (s ≢ 0 → p ≡ old) → (t ≢ 0 → q ≡ old) → p ≡ q
same_buffers form bs limits s t m o old p q same wrote also kept held = elim (is_zero s) [
  | inl z ↦
      let a = wrote z in
      let b = also (sym same ∙ z) in
      let texts = (one_answer form bs limits a.0 b.0 m o a.1 b.1).0 in
      a.2 ∙ ap (λ (x : List ℕ). x ++ drop (length x) old) texts ∙ sym b.2
  | inr n ↦ kept n ∙ sym (held (λ e. n (same ∙ e)))
]
