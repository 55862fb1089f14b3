-- Lemmas on `IsReported`, the results of calls that report a refusal. (For `check`, `fill_frame`, `index_frame` and
-- other calls.)
use Rattle.std.proofs.Common.{rules, ◌≡◌, ◌≢◌, ◌≤◌, ℕ, List, None, IsTrue, refl, ap, sym, subst, ◌∙◌}
use Rattle.capn_value.specs.FirstCap.{first_cap}
use Rattle.capn_value.specs.Tree.{Tree}
use Rattle.capn_walk.specs.Accepted.{IsBounded}
use Rattle.capn_walk.specs.Limits.{Bounds}
use Rattle.capn_walk.specs.declared.survey_answer.Surveyed.{Surveyed}
use Rattle.capn_canon.specs.Refusal.{IsPaidWithin, IsRefused, IsUnacceptedIn}
use Rattle.capn_canon.specs.declared.form.Form.{Form}
use Rattle.capn_canon.specs.declared.refusal.Refusal.{Refusal}
use Rattle.capn_canon.specs.declared.refusal.Refusal.TheVariants as refusals
use Rattle.capn_canon.proofs.shared.NotRefused.{not_refused}
use Rattle.capn_canon.proofs.shared.NotUnaccepted.{not_unaccepted}
use Rattle.capn_abi.specs.StatusCodes.{Reports, code, is_status, report_of}
use Rattle.capn_abi.specs.declared.report.CapnReport.{CapnReport}
use Rattle.capn_c.specs.Held.{DenotesHeld, IsUnacceptedHeld}
use Rattle.capn_c.specs.declared.entries.CapnEntry.{CapnEntry}
use Rattle.capn_c.specs.inner.Reported.{IsDone, IsDoneHeld, IsDoneIn, IsFilled, IsFilledIn, IsIndexed}
use Rattle.capn_c.specs.inner.Reported.{IsIndexedIn, IsReported}
use Rattle.capn_c.proofs.Listed.{held_listed, refused_listed}
use Rattle.capn_c.proofs.OutOfMemory.{refused_memory, unaccepted_held_memory, unaccepted_held_refused}
use Rattle.capn_c.proofs.OutOfMemory.{unaccepted_memory, unaccepted_refused}

-- ---- reports

pub refusal_bounded : (budget : ℕ) (e : Refusal) → IsPaidWithin budget e
    → IsBounded budget (report_of e).paid (report_of e).visits
refusal_bounded budget e within = search rules

pub reported : {reason : Refusal → Type 0} {needed : Type 0} (budget status : ℕ) (report : CapnReport) (e : Refusal)
    → Reports status report e → reason e → IsTrue (is_status (code e)) → (code e ≡ 8 → needed)
    → IsPaidWithin budget e → IsReported reason needed budget status report
reported budget status report e r h listed memory within = record {
  listed = subst (λ (n : ℕ). IsTrue (is_status n)) (sym r.status_is) listed;
  refused = (λ k. (e, r, h));
  memory = (λ k. memory (sym r.status_is ∙ k));
  bounded = subst (λ (x : CapnReport). IsBounded budget x.paid x.visits) (sym r.report_is)
      (refusal_bounded budget e within);
}

pub reported_for : {P Q : Refusal → Type 0} {M N : Type 0} {budget status : ℕ} {report : CapnReport}
    → ((e : Refusal) → P e → Q e) → (M → N) → IsReported P M budget status report → IsReported Q N budget status report
reported_for f g h = record {
  listed = h.listed;
  refused = (λ k. let (e, r, w) = h.refused k in (e, r, f e w));
  memory = (λ k. g (h.memory k));
  bounded = h.bounded;
}

high : (status : ℕ) (report : CapnReport) (e : Refusal) → Reports status report e → 8 ≤ status
high status report e r = search rules

-- ---- calls that report a refusal, which is `Memory` if there is a value

module _ {value : Tree → Type 0} {reason : Refusal → Type 0} {needed : Type 0} (status : ℕ) (report : CapnReport)
    (e : Refusal) (r : Reports status report e) where
  pub not_done : {done : Type 0} (budget : ℕ) → IsReported reason needed budget status report
      → ((v : Tree) → value v → e ≡ refusals.Memory) → IsDone done value reason needed budget status report
  not_done budget h only =
      let much = high status report e r in
      let memory : (v : Tree) → value v → status ≡ 8 = λ v d. r.status_is ∙ ap code (only v d) in
      search rules

  pub not_filled : {answer : List ℕ → ℕ → Type 0} (limits : Bounds) (old new : List ℕ)
      → IsReported reason needed limits.budget status report → new ≡ old
      → ((v : Tree) → value v → first_cap v ≡ None → e ≡ refusals.Memory)
      → IsFilled value answer reason needed limits old new status report
  not_filled limits old new h same only =
      let much = high status report e r in
      let memory : (v : Tree) → value v → first_cap v ≡ None → status ≡ 8 =
      λ v d n. r.status_is ∙ ap code (only v d n) in
      search rules

  pub not_indexed : {survey : Surveyed → Type 0} {index : Type 0} (budget : ℕ) (old new : List CapnEntry)
      → IsReported reason needed budget status report → new ≡ old
      → ((v : Tree) → value v → e ≡ refusals.Memory)
      → IsIndexed survey index value reason needed budget old new status report
  not_indexed budget old new h same only =
      let much = high status report e r in
      let memory : (v : Tree) → value v → status ≡ 8 = λ v d. r.status_is ∙ ap code (only v d) in
      search rules

-- ---- bytes in a form

module _ (form : Form) (bs : List ℕ) (limits : Bounds) {needed : Type 0} (status : ℕ) (report : CapnReport)
    (e : Refusal) (r : Reports status report e) (within : IsPaidWithin limits.budget e)
    (memory : e ≡ refusals.Memory → needed) where
  pub refused_bytes : IsRefused form bs limits e
      → IsReported (IsRefused form bs limits) needed limits.budget status report
  refused_bytes h =
      reported limits.budget status report e r h (refused_listed form bs limits e h)
      (λ k. memory (refused_memory form bs limits e h k)) within

  pub unaccepted_bytes : IsUnacceptedIn form bs limits e
      → IsReported (IsUnacceptedIn form bs limits) needed limits.budget status report
  unaccepted_bytes h =
      reported limits.budget status report e r h
      (refused_listed form bs limits e (unaccepted_refused form bs limits e h))
      (λ k. memory (unaccepted_memory form bs limits e h k)) within

  pub unaccepted_done : {done : Type 0} → IsUnacceptedIn form bs limits e
      → IsDoneIn form bs limits done needed status report
  unaccepted_done h =
      not_done status report e r limits.budget (unaccepted_bytes h) (λ v d. not_unaccepted form bs limits v e d h)

  pub unaccepted_indexed : (old : List CapnEntry) → IsUnacceptedIn form bs limits e
      → IsIndexedIn form bs limits needed old old status report
  unaccepted_indexed old h =
      not_indexed status report e r limits.budget old old (unaccepted_bytes h) refl
      (λ v d. not_unaccepted form bs limits v e d h)

  pub refused_filled : (old : List ℕ) → IsRefused form bs limits e
      → IsFilledIn form bs limits needed old old status report
  refused_filled old h =
      not_filled status report e r limits old old (refused_bytes h) refl (λ v d n. not_refused form bs limits v e d n h)

-- ---- segments that are not accepted

pub unaccepted_held_done : {done : Type 0} (m : List (List ℕ)) (limits : Bounds) (status : ℕ) (report : CapnReport)
    (e : Refusal) → Reports status report e → IsPaidWithin limits.budget e → e ≢ refusals.Memory
    → IsUnacceptedHeld m limits e → ((v : Tree) → DenotesHeld m limits v → e ≡ refusals.Memory)
    → IsDoneHeld m limits done status report
unaccepted_held_done m limits status report e r within other h only =
    not_done status report e r limits.budget
    (reported limits.budget status report e r h (held_listed m limits e (unaccepted_held_refused m limits e h))
    (λ k. other (unaccepted_held_memory m limits e h k)) within) only
