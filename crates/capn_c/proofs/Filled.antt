-- Lemmas on `IsFilled`, the results of calls that write canonical bytes. (For `canonical_fill.rt`,
-- `canonical_segments_call.rt` and `write_message`.)
use Rattle.std.proofs.Common.{rules, ◌≡◌, ◌≤◌, ◌+◌, ◌*◌, ℕ, List, None, length, take, refl, ap, subst}
use Rattle.capn_value.specs.FirstCap.{first_cap}
use Rattle.capn_value.specs.Tree.{Tree}
use Rattle.capn_stream.specs.Segments.{IsHeld}
use Rattle.capn_walk.specs.Accepted.{IsValueOf, paid, root}
use Rattle.capn_walk.specs.Limits.{Bounds}
use Rattle.capn_walk.proofs.shared.Unique.{unique}
use Rattle.capn_canon.specs.Canonicity.{IsCanonicalForm}
use Rattle.capn_canon.specs.Denotes.{AnswersMessage}
use Rattle.capn_canon.specs.Layout.{canon}
use Rattle.capn_canon.specs.Reads.{Reads}
use Rattle.capn_canon.specs.Refusal.{IsRefusedMessage}
use Rattle.capn_canon.specs.declared.form.Form.{Form}
use Rattle.capn_canon.specs.declared.refusal.Refusal.{Refusal}
use Rattle.capn_canon.proofs.shared.NotRefused.{refused_message}
use Rattle.capn_abi.specs.Calls.{Delivers}
use Rattle.capn_abi.specs.StatusCodes.{answered}
use Rattle.capn_abi.specs.declared.report.CapnReport.{CapnReport}
use Rattle.capn_c.specs.Held.{AnswersHeld, DenotesHeld, IsRefusedHeld}
use Rattle.capn_c.specs.inner.Reported.{IsFilled, IsFilledIn}
use Rattle.capn_c.proofs.OfMessage.{held_refused_message, value_of}
use Rattle.capn_c.proofs.Reported.{reported_for}

-- If a call delivers the canonical bytes `text`, `IsFilled` holds of its status and its report.
pub filled : {value : Tree → Type 0} {answer : List ℕ → ℕ → Type 0} {reason : Refusal → Type 0} {needed : Type 0}
    (limits : Bounds) (old new text : List ℕ) (price status : ℕ) (report : CapnReport)
    → report ≡ answered (length text) price 0 → Delivers text status (length text) old new → answer text price
    → price ≤ limits.budget → length text ≤ 8 * (price + 1)
    → ((v : Tree) → value v → first_cap v ≡ None → text ≡ canon v)
    → (status ≡ 0 → (v : Tree) → value v → IsCanonicalForm (take (length text) new) limits v)
    → IsFilled value answer reason needed limits old new status report
filled {value} limits old new text price status report told d a within short only form =
    let canonical : (v : Tree) → value v → first_cap v ≡ None → Delivers (canon v) status (length text) old new =
    λ v h n. subst (λ (b : List ℕ). Delivers b status (length text) old new) (only v h n) d in
    search rules

pub filled_for : {V W : Tree → Type 0} {A B : List ℕ → ℕ → Type 0} {P Q : Refusal → Type 0} {M N : Type 0}
    {limits : Bounds} {old new : List ℕ} {status : ℕ} {report : CapnReport} → ((v : Tree) → W v → V v)
    → ((text : List ℕ) (price : ℕ) → A text price → B text price) → ((e : Refusal) → P e → Q e) → (M → N)
    → IsFilled V A P M limits old new status report → IsFilled W B Q N limits old new status report
filled_for value answer reason needed h = let reported = reported_for reason needed h.reported in search rules

-- ---- a message

module _ (m : List (List ℕ)) (limits : Bounds) (old new : List ℕ) where
  -- `IsFilled` for the message `n`.
  abbrev IsOf : List (List ℕ) → ℕ → CapnReport → Type 0
  IsOf n status report =
      IsFilled (IsValueOf n limits) (AnswersMessage n limits) (IsRefusedMessage n limits) ⊥ limits old new status report

  pub message_filled : (v : Tree) (price status : ℕ) (report : CapnReport) → IsValueOf m limits v → first_cap v ≡ None
      → price ≡ paid m limits → report ≡ answered (length (canon v)) price 0
      → Delivers (canon v) status (length (canon v)) old new → price ≤ limits.budget
      → length (canon v) ≤ 8 * (price + 1)
      → (status ≡ 0 → (w : Tree) → IsValueOf m limits w → IsCanonicalForm (take (length (canon v)) new) limits w)
      → IsOf m status report
  message_filled v price status report is free pays told d within short form =
      filled limits old new (canon v) price status report told d
      (record { value = v; is = is; free = free; canonical = refl; priced = pays }) within short
      (λ w h n. ap canon (unique m v w root is.is h.is)) form

  pub filled_in : (form : Form) (bs : List ℕ) {needed : Type 0} (status : ℕ) (report : CapnReport)
      → Reads form bs limits.message_words m → IsOf m status report
      → IsFilledIn form bs limits needed old new status report
  filled_in form bs status report reads h =
      filled_for (λ v d. value_of form bs limits m reads v d)
      (λ text price a. record { message = m; reads = reads; answer = a })
      (λ e r. refused_message form bs limits m e reads r) (λ k. absurd k) h

  pub filled_held : (n : List (List ℕ)) (status : ℕ) (report : CapnReport) → n ≡ m → IsHeld m limits.message_words
      → IsOf n status report
      → IsFilled (DenotesHeld m limits) (AnswersHeld m limits) (IsRefusedHeld m limits) ⊥ limits old new status report
  filled_held n status report same held h =
      filled_for (λ v d. d.value) (λ text price a. record { held = held; answer = a })
      (λ e r. held_refused_message m limits e held r) (λ k. k)
      (subst (λ (x : List (List ℕ)). IsOf x status report) same h)
