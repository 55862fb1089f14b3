-- The clauses of `capn_canonical_with_scratch` allow one status and one report for each input, each number of words of
-- scratch, and each length of the buffer. (For `decision.rt`.)
use Rattle.std.proofs.Common.{IsTrue, ◌≡◌, ◌⊎◌, ◌↔◌, ◌≤◌, true, false, ℕ, zero, suc, inl, inr, List, length, refl, ap}
use Rattle.std.proofs.Common.{sym, ◌∙◌, arith}
use Rattle.std.proofs.Common.{Err, replicate, subst}
use Rattle.capn_walk.specs.Limits.{Bounds}
use Rattle.capn_canon.specs.Denotes.{Answers}
use Rattle.capn_canon.specs.Refusal.{IsRefused}
use Rattle.capn_canon.specs.declared.form.Form.{Form}
use Rattle.capn_canon.specs.declared.refusal.Refusal.{Refusal}
use Rattle.capn_canon.specs.declared.refusal.Refusal.TheVariants as refusals
use Rattle.capn_canon.proofs.shared.NotRefused.{not_refused}
use Rattle.capn_canon.proofs.shared.OneRefusal.{one_refusal}
use Rattle.capn_scratch.specs.Laws.{FormIsDecided}
use Rattle.capn_scratch.specs.declared.refusal.FormRefusal.TheVariants as lent
use Rattle.capn_abi.specs.StatusCodes.{Reports, answered, at_number, code, report_of}
use Rattle.capn_abi.specs.declared.report.CapnReport.{CapnReport}
use Rattle.capn_c.specs.Decision.{Agree}
use Rattle.capn_c.specs.Lent.{LacksScratch, is_lent_status}
use Rattle.capn_c.proofs.Decided.{IsTold, Wrong, agreed}
use Rattle.capn_c.proofs.DecidedRoom.{IsRoom, one_answer, one_room, room_clauses}

-- `bs` have canonical bytes of the length in `r`, and `s` says whether a buffer of the length `n` has room for them.
abbrev pub IsLentTold : Form → List ℕ → Bounds → ℕ → ℕ → CapnReport → Type 0
IsLentTold form bs limits n s r = ((text : List ℕ) × Answers form bs limits text r.paid × (r.length ≡ length text)
    × IsRoom n (length text) s) × (r ≡ answered r.length r.paid 0)

-- The clauses of the call on its status `s` and its report `r`, for arguments that are in their ranges if `F`, `L` and
-- `T` hold.
pub record IsScratchTold (F L T : Type 0) (form : Form) (bs : List ℕ) (limits : Bounds) (most scratch n s : ℕ)
    (r : CapnReport) : Type 0 where
  pub of_form : (s ≡ 2) ↔ (F → ⊥)
  pub of_limits : (s ≡ 3) ↔ (F × (L → ⊥))
  pub of_tariff : (s ≡ 4) ↔ (F × L × (T → ⊥))
  pub blank : 2 ≤ s → s ≤ 4 → r ≡ at_number 0
  pub found : s ≤ 1 → IsLentTold form bs limits n s r
  pub listed : IsTrue (is_lent_status s)
  pub lacking : s ≡ 9 → (r ≡ at_number r.at) × LacksScratch form bs most scratch r.at
  pub lacked : F → L → T → (k : ℕ) → LacksScratch form bs most scratch k → (s ≡ 9) × (r ≡ at_number k)
  pub refused : 10 ≤ s → (e : Refusal) × Reports s r e × IsRefused form bs limits e

-- ---- the status 9

above_five : (m : ℕ) → IsTrue (is_lent_status (suc (suc (suc (suc (suc m))))))
    → (suc (suc (suc (suc (suc m)))) ≡ 9) ⊎ (10 ≤ suc (suc (suc (suc (suc m)))))
above_five zero h = let k : false ≡ true = h in absurd cc
above_five (suc zero) h = let k : false ≡ true = h in absurd cc
above_five (suc (suc zero)) h = let k : false ≡ true = h in absurd cc
above_five (suc (suc (suc zero))) h = let k : false ≡ true = h in absurd cc
above_five (suc (suc (suc (suc zero)))) h = inl refl
above_five (suc (suc (suc (suc (suc m))))) h = inr (omega arith)

-- A status from 5 on is 9 or at least 10.
pub above : (s : ℕ) → IsTrue (is_lent_status s) → 5 ≤ s → (s ≡ 9) ⊎ (10 ≤ s)
above zero h k = absurd (omega (arith, k))
above (suc zero) h k = absurd (omega (arith, k))
above (suc (suc zero)) h k = absurd (omega (arith, k))
above (suc (suc (suc zero))) h k = absurd (omega (arith, k))
above (suc (suc (suc (suc zero)))) h k = absurd (omega (arith, k))
above (suc (suc (suc (suc (suc m))))) h k = above_five m h

-- Each status is 9 or not.
nine : (s : ℕ) → IsTrue (is_lent_status s) → (s ≡ 9) ⊎ (s ≡ 9 → ⊥)
nine zero h = inr (λ e. absurd (omega (arith, e)))
nine (suc zero) h = inr (λ e. absurd (omega (arith, e)))
nine (suc (suc zero)) h = inr (λ e. absurd (omega (arith, e)))
nine (suc (suc (suc zero))) h = inr (λ e. absurd (omega (arith, e)))
nine (suc (suc (suc (suc zero)))) h = inr (λ e. absurd (omega (arith, e)))
nine (suc (suc (suc (suc (suc m))))) h = elim (above_five m h) [
  | inl e ↦ inl e
  | inr k ↦ inr (λ e. absurd (omega (arith, e, k)))
]

module _ (F L T : Type 0) (form : Form) (bs : List ℕ) (limits : Bounds) (most scratch n s t : ℕ) (r q : CapnReport)
    (h : IsScratchTold F L T form bs limits most scratch n s r)
    (k : IsScratchTold F L T form bs limits most scratch n t q) where
  -- If one status is 9, the other one is 9.
  never_apart : s ≡ 9 → (t ≡ 9 → ⊥) → ⊥
  never_apart e differs =
      let lacks = (h.lacking e).1 in
      let third : F → L → ⊥ = λ f l. absurd (omega (
        arith,
        e,
        h.of_tariff.1 (f, l, λ u. differs (k.lacked f l u r.at lacks).0),
      )) in
      let second : F → ⊥ = λ f. absurd (omega (arith, e, h.of_limits.1 (f, third f))) in
      absurd (omega (arith, e, h.of_form.1 second))

module _ (F L T : Type 0) (form : Form) (bs : List ℕ) (limits : Bounds) (scratch n : ℕ) (decision : FormIsDecided)
    (s t : ℕ) (r q : CapnReport) where
  abbrev Told : ℕ → CapnReport → Type 0
  Told = IsScratchTold F L T form bs limits limits.message_words scratch n

  -- The number of words of scratch that are needed is one.
  one_need : (a b : ℕ) → LacksScratch form bs limits.message_words scratch a
      → LacksScratch form bs limits.message_words scratch b → a ≡ b
  one_need a b h k =
      let nothing : List ℕ = replicate n 0 in
      let same = decision form bs limits scratch nothing nothing nothing (Err (lent.NoScratch a))
      (Err (lent.NoScratch b)) (record { written = tt; refused = h; unchanged = refl })
      (record { written = tt; refused = k; unchanged = refl }) in
      let e : Err (lent.NoScratch a) ≡ Err (lent.NoScratch b) = same.0 in
      cc

  both_nine : Told s r → Told t q → s ≡ 9 → t ≡ 9 → (s ≡ t) × (r ≡ q)
  both_nine h k e f =
      let a = h.lacking e in
      let b = k.lacking f in
      (e ∙ sym f, a.0 ∙ ap (λ (x : ℕ). at_number x) (one_need r.at q.at a.1 b.1) ∙ sym b.0)

  one_lent : (x y : ℕ) (o p : CapnReport) → IsLentTold form bs limits n x o → IsLentTold form bs limits n y p
      → (x ≡ y) × (o ≡ p)
  one_lent x y o p ((a, h, l, i), e) ((b, k, m, j), f) =
      let same = one_answer form bs limits a b o.paid p.paid h k in
      let sizes : o.length ≡ p.length = l ∙ ap length same.0 ∙ sym m in (
        one_room n (length a) (length b) x y (ap length same.0) i j,
        e ∙ ap (λ (z : ℕ). answered z o.paid 0) sizes ∙ ap (λ (z : ℕ). answered p.length z 0) same.1 ∙ sym f,
      )

  lent_apart : (x : ℕ) (o : CapnReport) (e : Refusal) → IsLentTold form bs limits n x o → IsRefused form bs limits e
      → e ≡ refusals.Memory
  lent_apart x o e ((text, h, l, i), a) w =
      not_refused form bs limits h.answer.value e
      (record { message = h.message; reads = h.reads; value = h.answer.is }) h.answer.free w

  clauses : (x : ℕ) (o : CapnReport) → Told x o → (x ≡ 9 → ⊥)
      → IsTold code report_of (Wrong F L T) (IsLentTold form bs limits n) (IsRefused form bs limits) x o
  clauses x o h differs =
      room_clauses x o h.of_form h.of_limits h.of_tariff h.blank (IsLentTold form bs limits n)
      (IsRefused form bs limits)
      h.found (λ k. elim (above x h.listed k) [ inl e ↦ absurd (differs e) | inr l ↦ h.refused l ])

  neither : Told s r → Told t q → (s ≡ 9 → ⊥) → (t ≡ 9 → ⊥) → Agree s r t q
  neither h k differs never =
      agreed code report_of refusals.Memory (Wrong F L T) (IsLentTold form bs limits n) (IsRefused form bs limits) refl
      one_lent lent_apart (one_refusal form bs limits) s t r q (clauses s r h differs) (clauses t q k never)

  not_eight : (x : ℕ) → IsTrue (is_lent_status x) → x ≡ 8 → ⊥
  not_eight x h e = let k : false ≡ true = subst (λ (y : ℕ). IsTrue (is_lent_status y)) e h in absurd cc

  pub scratch_agree : Told s r → Told t q → (s ≡ t) × (r ≡ q)
  scratch_agree h k = elim (nine s h.listed) [
    | inl e ↦ elim (nine t k.listed) [
      | inl f ↦ both_nine h k e f
      | inr differs ↦ absurd (never_apart F L T form bs limits limits.message_words scratch n s t r q h k e differs)
    ]
    | inr differs ↦ elim (nine t k.listed) [
      | inl f ↦ absurd (never_apart F L T form bs limits limits.message_words scratch n t s q r k h f differs)
      | inr never ↦ neither h k differs never (not_eight s h.listed) (not_eight t k.listed)
    ]
  ]
