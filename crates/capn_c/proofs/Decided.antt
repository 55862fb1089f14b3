-- A status and a report are those of arguments out of their ranges, of an answer, or of a refusal. If each of them is
-- decided by the input, so are the status and the report. (For `decision.rt`.)
use Rattle.std.proofs.Common.{◌≡◌, ◌≢◌, ◌⊎◌, ◌↔◌, ◌≤◌, ℕ, zero, suc, inl, inr, List, ap, sym, ◌∙◌, arith}
use Rattle.capn_stream.specs.declared.fault.FrameFault.{FrameFault}
use Rattle.capn_canon.specs.declared.refusal.Refusal.{Refusal}
use Rattle.capn_abi.specs.StatusCodes.{Reports, at_number, code, frame_code, report_of}
use Rattle.capn_abi.specs.declared.report.CapnReport.{CapnReport}
use Rattle.capn_c.specs.Decision.{Agree}
use Rattle.capn_c.specs.FrameReport.{ReportsFrame, frame_report}

-- ---- any call

-- `status` and `report` are those of arguments out of their ranges (`wrong`), those of an answer (`done`), or those of
-- a refusal for which `reason` holds. If an argument is out of its range, no other status and report are possible.
pub record IsTold {E : Type 0} (code_of : E → ℕ) (report_for : E → CapnReport) (wrong : ℕ → Type 0)
    (done : ℕ → CapnReport → Type 0) (reason : E → Type 0) (status : ℕ) (report : CapnReport) : Type 0 where
  pub only : (n : ℕ) → wrong n → (status ≡ n) × (report ≡ at_number 0)
  pub each : wrong status ⊎ done status report
      ⊎ ((e : E) × (status ≡ code_of e) × (report ≡ report_for e) × reason e)

module _ {E : Type 0} (code_of : E → ℕ) (report_for : E → CapnReport) (memory : E) (wrong : ℕ → Type 0)
    (done : ℕ → CapnReport → Type 0) (reason : E → Type 0) (eight : code_of memory ≡ 8)
    (one : (s t : ℕ) (r q : CapnReport) → done s r → done t q → (s ≡ t) × (r ≡ q))
    (apart : (s : ℕ) (r : CapnReport) (e : E) → done s r → reason e → e ≡ memory)
    (single : (e f : E) → (e ≡ memory → ⊥) → (f ≡ memory → ⊥) → reason e → reason f → e ≡ f) where
  other_than : (s : ℕ) (e : E) → s ≡ code_of e → s ≢ 8 → e ≡ memory → ⊥
  other_than s e is n m = n (is ∙ ap code_of m ∙ eight)

  both : (s t : ℕ) (r q : CapnReport) → ((n : ℕ) → wrong n → (s ≡ n) × (r ≡ at_number 0))
      → ((n : ℕ) → wrong n → (t ≡ n) × (q ≡ at_number 0))
      → wrong s ⊎ done s r ⊎ ((e : E) × (s ≡ code_of e) × (r ≡ report_for e) × reason e)
      → wrong t ⊎ done t q ⊎ ((e : E) × (t ≡ code_of e) × (q ≡ report_for e) × reason e)
      → Agree s r t q
  both s t r q h k (inl w) i ns nt = let a = h s w in let b = k s w in (sym b.0, a.1 ∙ sym b.1)
  both s t r q h k (inr i) (inl w) ns nt = let a = h t w in let b = k t w in (a.0, a.1 ∙ sym b.1)
  both s t r q h k (inr (inl d)) (inr (inl g)) ns nt = one s t r q d g
  both s t r q h k (inr (inl d)) (inr (inr (e, is, rep, w))) ns nt =
      absurd (other_than t e is nt (apart s r e d w))
  both s t r q h k (inr (inr (e, is, rep, w))) (inr (inl d)) ns nt =
      absurd (other_than s e is ns (apart t q e d w))
  both s t r q h k (inr (inr (e, is, rep, w))) (inr (inr (f, also, other, v))) ns nt =
      let same = single e f (other_than s e is ns) (other_than t f also nt) w v in
      (is ∙ ap code_of same ∙ sym also, rep ∙ ap report_for same ∙ sym other)

  pub agreed : (s t : ℕ) (r q : CapnReport) → IsTold code_of report_for wrong done reason s r
      → IsTold code_of report_for wrong done reason t q → Agree s r t q
  agreed s t r q h k = both s t r q h.only k.only h.each k.each

-- ---- arguments out of their ranges

-- The status `n` is that of the first argument that is out of its range, for a call with a form.
abbrev pub Wrong : (F L T : Type 0) → ℕ → Type 0
Wrong F L T n = ((n ≡ 2) × (F → ⊥)) ⊎ ((n ≡ 3) × (F × (L → ⊥))) ⊎ ((n ≡ 4) × (F × L × (T → ⊥)))

-- The same for a call without a form.
abbrev pub WrongLimits : (L T : Type 0) → ℕ → Type 0
WrongLimits L T n = ((n ≡ 3) × (L → ⊥)) ⊎ ((n ≡ 4) × (L × (T → ⊥)))

module _ {F L T : Type 0} (s : ℕ) (r : CapnReport) (form : (s ≡ 2) ↔ (F → ⊥)) (limits : (s ≡ 3) ↔ (F × (L → ⊥)))
    (tariff : (s ≡ 4) ↔ (F × L × (T → ⊥))) (blank : 2 ≤ s → s ≤ 4 → r ≡ at_number 0) where
  only_wrong : (n : ℕ) → Wrong F L T n → (s ≡ n) × (r ≡ at_number 0)
  only_wrong n (inl (is, w)) =
      let e : s ≡ 2 = form.1 w in (e ∙ sym is, blank (omega (arith, e)) (omega (arith, e)))
  only_wrong n (inr (inl (is, w))) =
      let e : s ≡ 3 = limits.1 w in (e ∙ sym is, blank (omega (arith, e)) (omega (arith, e)))
  only_wrong n (inr (inr (is, w))) =
      let e : s ≡ 4 = tariff.1 w in (e ∙ sym is, blank (omega (arith, e)) (omega (arith, e)))

  each_kind : (D R : Type 0) → D ⊎ (s ≡ 2) ⊎ (s ≡ 3) ⊎ (s ≡ 4) ⊎ R → Wrong F L T s ⊎ D ⊎ R
  each_kind D R (inl d) = inr (inl d)
  each_kind D R (inr (inl e)) = inl (inl (e, form.0 e))
  each_kind D R (inr (inr (inl e))) = inl (inr (inl (e, limits.0 e)))
  each_kind D R (inr (inr (inr (inl e)))) = inl (inr (inr (e, tariff.0 e)))
  each_kind D R (inr (inr (inr (inr e)))) = inr (inr e)

  pub told : {E : Type 0} (code_of : E → ℕ) (report_for : E → CapnReport) (done : ℕ → CapnReport → Type 0)
      (reason : E → Type 0)
      → done s r ⊎ (s ≡ 2) ⊎ (s ≡ 3) ⊎ (s ≡ 4) ⊎ ((e : E) × (s ≡ code_of e) × (r ≡ report_for e) × reason e)
      → IsTold code_of report_for (Wrong F L T) done reason s r
  told code_of report_for done reason k = record { only = only_wrong; each = each_kind _ _ k }

module _ {L T : Type 0} (s : ℕ) (r : CapnReport) (limits : (s ≡ 3) ↔ (L → ⊥)) (tariff : (s ≡ 4) ↔ (L × (T → ⊥)))
    (blank : 3 ≤ s → s ≤ 4 → r ≡ at_number 0) where
  only_limits : (n : ℕ) → WrongLimits L T n → (s ≡ n) × (r ≡ at_number 0)
  only_limits n (inl (is, w)) =
      let e : s ≡ 3 = limits.1 w in (e ∙ sym is, blank (omega (arith, e)) (omega (arith, e)))
  only_limits n (inr (is, w)) =
      let e : s ≡ 4 = tariff.1 w in (e ∙ sym is, blank (omega (arith, e)) (omega (arith, e)))

  each_limit : (D R : Type 0) → D ⊎ (s ≡ 3) ⊎ (s ≡ 4) ⊎ R → WrongLimits L T s ⊎ D ⊎ R
  each_limit D R (inl d) = inr (inl d)
  each_limit D R (inr (inl e)) = inl (inl (e, limits.0 e))
  each_limit D R (inr (inr (inl e))) = inl (inr (e, tariff.0 e))
  each_limit D R (inr (inr (inr e))) = inr (inr e)

  pub told_limits : {E : Type 0} (code_of : E → ℕ) (report_for : E → CapnReport) (done : ℕ → CapnReport → Type 0)
      (reason : E → Type 0)
      → done s r ⊎ (s ≡ 3) ⊎ (s ≡ 4) ⊎ ((e : E) × (s ≡ code_of e) × (r ≡ report_for e) × reason e)
      → IsTold code_of report_for (WrongLimits L T) done reason s r
  told_limits code_of report_for done reason k = record { only = only_limits; each = each_limit _ _ k }

-- ---- the statuses that are possible

pub kinds : (s : ℕ) (D R : Type 0) → (s ≡ 0 → D) → (8 ≤ s → R) → (s ≡ 0) ⊎ (s ≡ 2) ⊎ (s ≡ 3) ⊎ (s ≡ 4) ⊎ (8 ≤ s)
    → D ⊎ (s ≡ 2) ⊎ (s ≡ 3) ⊎ (s ≡ 4) ⊎ R
kinds s D R found refused (inl e) = inl (found e)
kinds s D R found refused (inr (inl e)) = inr (inl e)
kinds s D R found refused (inr (inr (inl e))) = inr (inr (inl e))
kinds s D R found refused (inr (inr (inr (inl e)))) = inr (inr (inr (inl e)))
kinds s D R found refused (inr (inr (inr (inr k)))) = inr (inr (inr (inr (refused k))))

pub kinds_limits : (s : ℕ) (D R : Type 0) → (s ≡ 0 → D) → (8 ≤ s → R) → (s ≡ 0) ⊎ (s ≡ 3) ⊎ (s ≡ 4) ⊎ (8 ≤ s)
    → D ⊎ (s ≡ 3) ⊎ (s ≡ 4) ⊎ R
kinds_limits s D R found refused (inl e) = inl (found e)
kinds_limits s D R found refused (inr (inl e)) = inr (inl e)
kinds_limits s D R found refused (inr (inr (inl e))) = inr (inr (inl e))
kinds_limits s D R found refused (inr (inr (inr k))) = inr (inr (inr (refused k)))

-- Of a call with a buffer, each status is one of an answer, of an argument, or of a refusal.
pub kinds_room : (s : ℕ) (D R : Type 0) → (s ≤ 1 → D) → (5 ≤ s → R) → D ⊎ (s ≡ 2) ⊎ (s ≡ 3) ⊎ (s ≡ 4) ⊎ R
kinds_room zero D R found refused = inl (found (omega arith))
kinds_room (suc zero) D R found refused = inl (found (omega arith))
kinds_room (suc (suc zero)) D R found refused = inr (inl (omega arith))
kinds_room (suc (suc (suc zero))) D R found refused = inr (inr (inl (omega arith)))
kinds_room (suc (suc (suc (suc zero)))) D R found refused = inr (inr (inr (inl (omega arith))))
kinds_room (suc (suc (suc (suc (suc n))))) D R found refused = inr (inr (inr (inr (refused (omega arith)))))

pub kinds_room_limits : (s : ℕ) (D R : Type 0) → (s ≤ 1 → D) → (5 ≤ s → R) → (s ≤ 1) ⊎ (s ≡ 3) ⊎ (s ≡ 4) ⊎ (8 ≤ s)
    → D ⊎ (s ≡ 3) ⊎ (s ≡ 4) ⊎ R
kinds_room_limits s D R found refused (inl e) = inl (found e)
kinds_room_limits s D R found refused (inr (inl e)) = inr (inl e)
kinds_room_limits s D R found refused (inr (inr (inl e))) = inr (inr (inl e))
kinds_room_limits s D R found refused (inr (inr (inr k))) = inr (inr (inr (refused (omega (arith, k)))))

-- ---- refusals of bytes

pub reported_by : (reason : Refusal → Type 0) (s : ℕ) (r : CapnReport) → (e : Refusal) × Reports s r e × reason e
    → (e : Refusal) × (s ≡ code e) × (r ≡ report_of e) × reason e
reported_by reason s r (e, rep, w) = (e, rep.status_is, rep.report_is, w)

pub frame_reported_by : (bs : List ℕ) (reason : FrameFault → Type 0) (s : ℕ) (r : CapnReport)
    → (e : FrameFault) × ReportsFrame bs s r e × reason e
    → (e : FrameFault) × (s ≡ frame_code e) × (r ≡ frame_report bs e) × reason e
frame_reported_by bs reason s r (e, rep, w) = (e, rep.status_is, rep.report_is, w)
