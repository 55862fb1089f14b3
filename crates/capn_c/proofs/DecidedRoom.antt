-- The clauses of a call with a buffer allow one status and one report for each input and each length of the buffer, and
-- status 8. (For `decision.rt`.)
use Rattle.std.proofs.Common.{◌≡◌, ◌⊎◌, ◌↔◌, ◌+◌, ◌*◌, ◌<◌, ◌≤◌, ℕ, zero, suc, inl, inr, List, length, drop}
use Rattle.std.proofs.Common.{refl, ap, sym, ◌∙◌, arith, eq-zero-or-pos}
use Rattle.std.proofs.lemmas.List.{length-append}
use Rattle.capn_walk.specs.Accepted.{paid}
use Rattle.capn_walk.specs.Limits.{Bounds}
use Rattle.capn_walk.specs.declared.survey_answer.Surveyed.{Surveyed}
use Rattle.capn_canon.specs.Denotes.{Answers}
use Rattle.capn_canon.specs.Layout.{canon}
use Rattle.capn_canon.specs.Refusal.{IsRefused, IsUnacceptedIn}
use Rattle.capn_canon.specs.SurveyedBytes.{Surveys}
use Rattle.capn_canon.specs.declared.form.Form.{Form}
use Rattle.capn_canon.specs.declared.refusal.Refusal.{Refusal}
use Rattle.capn_canon.specs.declared.refusal.Refusal.TheVariants as refusals
use Rattle.capn_canon.proofs.shared.NotRefused.{not_refused}
use Rattle.capn_canon.proofs.shared.NotUnaccepted.{not_unaccepted}
use Rattle.capn_canon.proofs.shared.OneReading.{answers_only, one_message}
use Rattle.capn_canon.proofs.shared.OneRefusal.{one_refusal}
use Rattle.capn_walk.proofs.shared.Unique.{unique}
use Rattle.capn_walk.specs.Accepted.{root}
use Rattle.capn_abi.specs.Calls.{Delivers, Serves}
use Rattle.capn_abi.specs.StatusCodes.{Reports, answered, at_number, code, report_of}
use Rattle.capn_abi.specs.declared.report.CapnReport.{CapnReport}
use Rattle.capn_c.specs.Decision.{Agree}
use Rattle.capn_c.specs.Held.{AnswersHeld, IsRefusedHeld}
use Rattle.capn_c.proofs.Decided.{IsTold, Wrong, WrongLimits, agreed, kinds_room, kinds_room_limits, reported_by}
use Rattle.capn_c.proofs.Decided.{told, told_limits}
use Rattle.capn_c.proofs.DecidedAnswers.{one_price_and_visits, one_unaccepted}
use Rattle.capn_c.proofs.DecidedHeld.{held_apart, one_held_refusal}

-- ---- room in a buffer

-- `s` is 0 if `size` fits into a buffer of the length `n`, and 1 if it does not.
abbrev pub IsRoom : (n size s : ℕ) → Type 0
IsRoom n size s = ((s ≡ 0) × (size ≤ n)) ⊎ ((s ≡ 1) × (n < size))

pub one_room : (n v w s t : ℕ) → v ≡ w → IsRoom n v s → IsRoom n w t → s ≡ t
one_room n v w s t e (inl h) (inl k) = h.0 ∙ sym k.0
one_room n v w s t e (inl h) (inr k) = absurd (omega (arith, e, h.1, k.1))
one_room n v w s t e (inr h) (inl k) = absurd (omega (arith, e, h.1, k.1))
one_room n v w s t e (inr h) (inr k) = h.0 ∙ sym k.0

pub delivers_room : (n : ℕ) (text : List ℕ) (s size : ℕ) (old new : List ℕ) → length old ≡ n → length new ≡ n
    → Delivers text s size old new → IsRoom n (length text) s
delivers_room n text s size old new o w d = elim d.either [
  | inl h ↦
      inl (h.0, omega (arith, ap length h.1, length-append text (drop (length text) old), w))
  | inr h ↦ inr (h.0, omega (arith, h.1.0, o))
]

-- ---- an index

-- The index of `bs` has the figures in `r`, and `s` says whether a buffer of `n` entries has room for it.
abbrev pub IsIndexTold : Form → List ℕ → Bounds → ℕ → ℕ → CapnReport → Type 0
IsIndexTold form bs limits n s r = IsRoom n r.visits s
    × ((x : Surveyed) × Surveys form bs limits x × (r ≡ answered (24 * x.visits) x.paid x.visits))

module _ (form : Form) (bs : List ℕ) (limits : Bounds) (n : ℕ) where
  one_index : (s t : ℕ) (r q : CapnReport) → IsIndexTold form bs limits n s r → IsIndexTold form bs limits n t q
      → (s ≡ t) × (r ≡ q)
  one_index s t r q (h, (x, i, a)) (k, (y, j, b)) =
      let same = one_price_and_visits form bs limits x y i j in
      let reports : r ≡ q =
      a ∙ ap (λ (p : ℕ). answered (24 * x.visits) p x.visits) same.0
      ∙ ap (λ (v : ℕ). answered (24 * v) y.paid v) same.1 ∙ sym b in
      (one_room n r.visits q.visits s t (ap (λ (o : CapnReport). o.visits) reports) h k, reports)

  index_apart : (s : ℕ) (r : CapnReport) (e : Refusal) → IsIndexTold form bs limits n s r
      → IsUnacceptedIn form bs limits e → e ≡ refusals.Memory
  index_apart s r e (h, (x, i, a)) w =
      not_unaccepted form bs limits i.survey.value e
      (record { message = i.message; reads = i.reads; value = i.survey.is }) w

  pub indexes_agree : (wrong : ℕ → Type 0) (s t : ℕ) (r q : CapnReport)
      → IsTold code report_of wrong (IsIndexTold form bs limits n) (IsUnacceptedIn form bs limits) s r
      → IsTold code report_of wrong (IsIndexTold form bs limits n) (IsUnacceptedIn form bs limits) t q → Agree s r t q
  indexes_agree wrong s t r q h k =
      agreed code report_of refusals.Memory wrong (IsIndexTold form bs limits n) (IsUnacceptedIn form bs limits) refl
      one_index index_apart (one_unaccepted form bs limits) s t r q h k

-- ---- canonical bytes

-- `r` has the length of `text`, and `s` says whether a buffer of the length `n` has room for it. For an empty buffer,
-- `r` has a length that is enough, by the price.
abbrev pub IsTextRoom : (n : ℕ) → List ℕ → ℕ → CapnReport → Type 0
IsTextRoom n text s r = ((n ≡ 0) × (s ≡ 1) × (r.length ≡ 8 * (r.paid + 1)))
    ⊎ ((0 < n) × (r.length ≡ length text) × IsRoom n (length text) s)

pub text_room : (text : List ℕ) (s : ℕ) (r : CapnReport) (n : ℕ) (old new : List ℕ) → length old ≡ n
    → length new ≡ n → Serves text s r old new → IsTextRoom n text s r
text_room text s r n old new o w h = elim (eq-zero-or-pos n) [
  | inl z ↦ let k = h.measured (o ∙ z) in inl (z, k.0, k.1)
  | inr p ↦
      let k = h.delivered (omega (arith, o, p)) in
      inr (p, k.length_is, delivers_room n text s r.length old new o w k)
]

one_text : (n : ℕ) (a b : List ℕ) (s t : ℕ) (r q : CapnReport) → a ≡ b → r.paid ≡ q.paid → IsTextRoom n a s r
    → IsTextRoom n b t q → (s ≡ t) × (r.length ≡ q.length)
one_text n a b s t r q same price (inl h) (inl k) =
    (h.1 ∙ sym k.1, h.2 ∙ ap (λ (p : ℕ). 8 * (p + 1)) price ∙ sym k.2)
one_text n a b s t r q same price (inl h) (inr k) = absurd (omega (arith, h.0, k.0))
one_text n a b s t r q same price (inr h) (inl k) = absurd (omega (arith, h.0, k.0))
one_text n a b s t r q same price (inr h) (inr k) =
    (one_room n (length a) (length b) s t (ap length same) h.2 k.2, h.1 ∙ ap length same ∙ sym k.1)

-- `answer` holds of canonical bytes and of the price in `r`, and `s` says whether a buffer of the length `n` has room.
abbrev pub IsServedTold : (answer : List ℕ → ℕ → Type 0) → ℕ → ℕ → CapnReport → Type 0
IsServedTold answer n s r = ((text : List ℕ) × answer text r.paid × IsTextRoom n text s r)
    × (r ≡ answered r.length r.paid 0)

one_served : (answer : List ℕ → ℕ → Type 0)
    → ((a b : List ℕ) (m o : ℕ) → answer a m → answer b o → (a ≡ b) × (m ≡ o)) → (n s t : ℕ) (r q : CapnReport)
    → IsServedTold answer n s r → IsServedTold answer n t q → (s ≡ t) × (r ≡ q)
one_served answer one n s t r q ((a, h, i), e) ((b, k, j), f) =
    let same = one a b r.paid q.paid h k in
    let both = one_text n a b s t r q same.0 same.1 i j in (
      both.0,
      e ∙ ap (λ (x : ℕ). answered x r.paid 0) both.1 ∙ ap (λ (p : ℕ). answered q.length p 0) same.1 ∙ sym f,
    )

module _ (form : Form) (bs : List ℕ) (limits : Bounds) where
  pub one_answer : (a b : List ℕ) (m o : ℕ) → Answers form bs limits a m → Answers form bs limits b o
      → (a ≡ b) × (m ≡ o)
  one_answer a b m o h k =
      let same = one_message form bs limits.message_words h.message k.message h.reads k.reads in
      let texts = answers_only form bs limits a m h k.answer.value
      (record { message = k.message; reads = k.reads; value = k.answer.is }) in (
        texts ∙ sym k.answer.canonical,
        h.answer.priced ∙ ap (λ (x : List (List ℕ)). paid x limits) same ∙ sym k.answer.priced,
      )

  served_apart : (n s : ℕ) (r : CapnReport) (e : Refusal) → IsServedTold (Answers form bs limits) n s r
      → IsRefused form bs limits e → e ≡ refusals.Memory
  served_apart n s r e ((text, h, i), a) w =
      not_refused form bs limits h.answer.value e
      (record { message = h.message; reads = h.reads; value = h.answer.is }) h.answer.free w

  pub served_agree : (n : ℕ) (wrong : ℕ → Type 0) (s t : ℕ) (r q : CapnReport)
      → IsTold code report_of wrong (IsServedTold (Answers form bs limits) n) (IsRefused form bs limits) s r
      → IsTold code report_of wrong (IsServedTold (Answers form bs limits) n) (IsRefused form bs limits) t q
      → Agree s r t q
  served_agree n wrong s t r q h k =
      agreed code report_of refusals.Memory wrong (IsServedTold (Answers form bs limits) n) (IsRefused form bs limits)
      refl (one_served (Answers form bs limits) one_answer n) (served_apart n) (one_refusal form bs limits) s t r q h k

module _ (m : List (List ℕ)) (limits : Bounds) where
  one_held_answer : (a b : List ℕ) (p o : ℕ) → AnswersHeld m limits a p → AnswersHeld m limits b o
      → (a ≡ b) × (p ≡ o)
  one_held_answer a b p o h k =
      let same = unique m h.answer.value k.answer.value root h.answer.is.is k.answer.is.is in
      (h.answer.canonical ∙ ap canon same ∙ sym k.answer.canonical, h.answer.priced ∙ sym k.answer.priced)

  held_served_apart : (n s : ℕ) (r : CapnReport) (e : Refusal) → IsServedTold (AnswersHeld m limits) n s r
      → IsRefusedHeld m limits e → e ≡ refusals.Memory
  held_served_apart n s r e ((text, h, i), a) w = held_apart m limits text r.paid e h w

  pub held_served_agree : (n : ℕ) (wrong : ℕ → Type 0) (s t : ℕ) (r q : CapnReport)
      → IsTold code report_of wrong (IsServedTold (AnswersHeld m limits) n) (IsRefusedHeld m limits) s r
      → IsTold code report_of wrong (IsServedTold (AnswersHeld m limits) n) (IsRefusedHeld m limits) t q
      → Agree s r t q
  held_served_agree n wrong s t r q h k =
      agreed code report_of refusals.Memory wrong (IsServedTold (AnswersHeld m limits) n) (IsRefusedHeld m limits) refl
      (one_served (AnswersHeld m limits) one_held_answer n) (held_served_apart n) (one_held_refusal m limits) s t r q h
      k

-- ---- the clauses of a call with a buffer

module _ {F L T : Type 0} (s : ℕ) (r : CapnReport) (of_form : (s ≡ 2) ↔ (F → ⊥))
    (of_limits : (s ≡ 3) ↔ (F × (L → ⊥))) (of_tariff : (s ≡ 4) ↔ (F × L × (T → ⊥)))
    (blank : 2 ≤ s → s ≤ 4 → r ≡ at_number 0) where
  pub room_clauses : (done : ℕ → CapnReport → Type 0) (reason : Refusal → Type 0) → (s ≤ 1 → done s r)
      → (5 ≤ s → (e : Refusal) × Reports s r e × reason e) → IsTold code report_of (Wrong F L T) done reason s r
  room_clauses done reason found refused =
      told s r of_form of_limits of_tariff blank code report_of done reason
      (kinds_room s _ _ found (λ k. reported_by reason s r (refused k)))

module _ {L T : Type 0} (s : ℕ) (r : CapnReport) (of_limits : (s ≡ 3) ↔ (L → ⊥)) (of_tariff : (s ≡ 4) ↔ (L × (T → ⊥)))
    (blank : 2 ≤ s → s ≤ 4 → r ≡ at_number 0) where
  pub room_limits_clauses : (done : ℕ → CapnReport → Type 0) (reason : Refusal → Type 0)
      → ((s ≤ 1) ⊎ (s ≡ 3) ⊎ (s ≡ 4) ⊎ (8 ≤ s)) → (s ≤ 1 → done s r)
      → (5 ≤ s → (e : Refusal) × Reports s r e × reason e) → IsTold code report_of (WrongLimits L T) done reason s r
  room_limits_clauses done reason possible found refused =
      told_limits s r of_limits of_tariff (λ a b. blank (omega (arith, a)) b) code report_of done reason
      (kinds_room_limits s _ _ found (λ k. reported_by reason s r (refused k)) possible)

pub index_room : (n s v : ℕ) → (s ≡ 0 → v ≤ n) → (s ≡ 1 → n < v) → s ≤ 1 → IsRoom n v s
index_room n zero v fits short h = inl (refl, fits refl)
index_room n (suc zero) v fits short h = inr (omega arith, short (omega arith))
index_room n (suc (suc k)) v fits short h = absurd (omega (arith, h))
