-- The theorem follows from the clauses `found` and `refused`. (For `canonicalise`, `readers` and `theorem`.)
use Rattle.std.proofs.Common.{◌≡◌, ℕ, ◌^◌, ◌≤◌, List, None, Result, Ok, Err, IfOk, IfErr, MatchResult}
use Rattle.std.proofs.Common.{refl, ap, sym, subst, ◌∙◌, arith, inl, inr}
use Rattle.capn_value.specs.Tree.{Tree}
use Rattle.capn_value.specs.FirstCap.{first_cap}
use Rattle.capn_value.specs.InRange.{InRange}
use Rattle.capn_value.specs.Fits.{Fits}
use Rattle.capn_value.specs.Trim.{trimmed}
use Rattle.capn_walk.specs.Accepted as walks
use Rattle.capn_walk.specs.Limits.{Bounds}
use Rattle.capn_walk.specs.declared.walk_answer.Stopped.{Stopped}
use Rattle.capn_canon.specs.declared.form.Form.{Form}
use Rattle.capn_canon.specs.declared.form.Form.TheVariants as forms
use Rattle.capn_canon.specs.declared.refusal.Refusal.{Refusal}
use Rattle.capn_canon.specs.declared.refusal.Refusal.TheVariants as refusals
use Rattle.capn_canon.specs.declared.canonical.Canonical.{Canonical}
use Rattle.capn_canon.specs.Denotes.{Denotes, Answers}
use Rattle.capn_canon.specs.Refusal.{IsRefused}
use Rattle.capn_canon.specs.Theorem.{Answered, EqualExactly, OwnForm, WithinBudget}
use Rattle.capn_canon.proofs.shared.NotRefused.{not_refused}
use Rattle.capn_canon.proofs.shared.OneReading.{is_message}
use Rattle.capn_canon.proofs.theorem.Headline.{denoted_fits, denoted_in_range}
use Rattle.capn_canon.proofs.theorem.EqualExactlySame.{equal_exactly_same}
use Rattle.capn_canon.proofs.calls.Answered.{answers_only, answers_form}
use Rattle.capn_canon.proofs.theorem.CapOfTrimmed.{cap-trimmed}

-- If there is an answer for `bs`, then `bs` denote a value without capabilities.
pub answer_denotes : (form : Form) (bs : List ℕ) (limits : Bounds) (out : List ℕ) (n : ℕ)
    → Answers form bs limits out n → (v : Tree) × Denotes form bs limits v × (first_cap v ≡ None)
answer_denotes form bs limits out n h =
    (h.answer.value, record { message = h.message; reads = h.reads; value = h.answer.is }, h.answer.free)

module _ {A : Type 0} (form : Form) (bs : List ℕ) (limits : Bounds) where
  -- A result that is not `Memory` is `Ok` if and only if `bs` denote a value without capabilities.
  pub answered : (r : Result (Canonical A) Refusal) → IfOk r (λ c. Answers form bs limits c.bytes.items c.paid)
      → IfErr r (λ e. IsRefused form bs limits e) → Answered form bs limits r
  answered (Ok c) f e n = ((λ k. answer_denotes form bs limits c.bytes.items c.paid f), (λ d. refl))
  answered (Err x) f e n = (
    (λ k. absurd cc),
    (λ d. absurd (n (ap Err (not_refused form bs limits d.0 x d.1 d.2 e)))),
  )

memory_only : (A : Type 0) (form : Form) (bs : List ℕ) (limits : Bounds) (v : Tree) (e : Refusal)
    → Denotes form bs limits v → first_cap v ≡ None → Answered {A = A} form bs limits (Err e) → e ≡ refusals.Memory
memory_only A form bs limits v refusals.Memory d n a = refl
memory_only A form bs limits v (refusals.Bare x) d n a = absurd (let k = (a (λ p. absurd cc)).1 (v, d, n) in cc)
memory_only A form bs limits v (refusals.Packed x) d n a = absurd (let k = (a (λ p. absurd cc)).1 (v, d, n) in cc)
memory_only A form bs limits v (refusals.Frame x) d n a = absurd (let k = (a (λ p. absurd cc)).1 (v, d, n) in cc)
memory_only A form bs limits v (refusals.Trailing x) d n a = absurd (let k = (a (λ p. absurd cc)).1 (v, d, n) in cc)
memory_only A form bs limits v (refusals.Walk x) d n a = absurd (let k = (a (λ p. absurd cc)).1 (v, d, n) in cc)
memory_only A form bs limits v (refusals.Capability x) d n a = absurd (let k = (a (λ p. absurd cc)).1 (v, d, n) in cc)

-- If `bs` denote a value without capabilities, and `out` is the only answer for `bs`, a call returns `out` or `Memory`.
call_gives : (A : Type 0) (form : Form) (bs out : List ℕ) (limits : Bounds) (v : Tree) → Denotes form bs limits v
    → first_cap v ≡ None → ((b : List ℕ) (n : ℕ) → Answers form bs limits b n → b ≡ out)
    → (r : Result (Canonical A) Refusal) → IfOk r (λ d. Answers form bs limits d.bytes.items d.paid)
    → Answered form bs limits r → MatchResult r (λ d. d.bytes.items ≡ out) (λ e. e ≡ refusals.Memory)
call_gives A form bs out limits v d n only (Ok c) found answered = only c.bytes.items c.paid found
call_gives A form bs out limits v d n only (Err e) found answered = memory_only A form bs limits v e d n answered

module _ (form : Form) (bs : List ℕ) (limits : Bounds) (few : limits.message_words ≤ 2 ^ 28)
    (small : limits.budget ≤ 2 ^ 28) (shallow : limits.depth ≤ 256) where
  -- The value that `bs` denote fits and is in range.
  parts : (v : Tree) → Denotes form bs limits v → Fits v × InRange v
  parts v h =
      let m = is_message form bs limits.message_words h.message few h.reads in (
        denoted_fits h.message limits v m small shallow h.value,
        denoted_in_range h.message limits v m small shallow h.value,
      )

module _ (form : Form) (bs : List ℕ) (limits : Bounds) (few : limits.message_words ≤ 2 ^ 28)
    (small : limits.budget ≤ 2 ^ 28) (shallow : limits.depth ≤ 256) where
  -- Two answers are equal if and only if the values that their inputs denote are the same (`Same`).
  pub equal_exactly : (out : List ℕ) (n : ℕ) → Answers form bs limits out n → EqualExactly form bs limits out
  equal_exactly out n h g ds m other q v w are k d e =
      let a = parts form bs limits few small shallow v d in
      let b = parts g ds m are.few_words are.small_budget are.small_depth w e in
      let s = equal_exactly_same v w a.0 a.1 b.0 b.1 in
      let x = answers_only form bs limits out n h v d in
      let y = answers_only g ds m other q k w e in
      ((λ p. s.0 (sym x ∙ p ∙ y)), (λ p. x ∙ s.1 p ∙ sym y))

  -- An answer denotes a value that is the same as the value of its input (`Same`). Canonicalising the answer gives the
  -- same bytes, or `Memory`.
  pub own_form : {A : Type 0} (c : Canonical A) → Answers form bs limits c.bytes.items c.paid
      → OwnForm form bs limits c
  own_form {A} c h =
      let a = answer_denotes form bs limits c.bytes.items c.paid h in
      let f = answers_form form bs limits c.bytes.items c.paid h few small shallow a.0 a.1 in
      let free : first_cap (trimmed a.0) ≡ None = cap-trimmed a.0 ∙ a.2 in
      record {
        denoted = a.0;
        is = a.1;
        value = trimmed a.0;
        reads_bare = f.reads_back.denotes;
        same = f.reads_back.same;
        itself = (free, f.own);
        second = call_gives A forms.Bare c.bytes.items c.bytes.items limits (trimmed a.0) f.reads_back.denotes free
            (λ b n k. answers_only forms.Bare c.bytes.items limits b n k (trimmed a.0) f.reads_back.denotes ∙ f.own);
      }

-- A walk that is refused pays at most the budget.
refused_within : (m : List (List ℕ)) (limits : Bounds) (s : Stopped)
    → walks.IsWalkRefused m limits s.fault s.place s.paid s.visits → s.paid ≤ limits.budget
refused_within m limits s (inl (a, b, c, p, q)) = omega arith
refused_within m limits s (inr (a, h)) =
    let l = h.within.paid in
    let e = h.sum in
    omega arith

walked_within : (form : Form) (bs : List ℕ) (limits : Bounds) (s : Stopped)
    → IsRefused form bs limits (refusals.Walk s) → s.paid ≤ limits.budget
walked_within form bs limits s (m, h, k) = refused_within m limits s k

pub within_budget : {A : Type 0} (form : Form) (bs : List ℕ) (limits : Bounds) (r : Result (Canonical A) Refusal)
    → IfOk r (λ c. Answers form bs limits c.bytes.items c.paid) → IfErr r (λ e. IsRefused form bs limits e)
    → WithinBudget limits r
within_budget form bs limits (Ok c) f e =
    let l = f.answer.is.accepted.within.paid in
    let p = f.answer.priced in
    omega arith
within_budget form bs limits (Err x) f e =
    λ s is. walked_within form bs limits s (subst (λ (y : Refusal). IsRefused form bs limits y) is e)
