-- The result of a task for a message is also the result for the bytes that are read as that message. (For `run_write`
-- and `run_index`.)
use Rattle.std.proofs.Common.{◌≡◌, inl, inr, ℕ, List, refl, ap, sym, subst, Result, Ok, Err}
use Rattle.capn_walk.specs.Limits.{Bounds}
use Rattle.capn_canon.specs.Answered.{IsRefusedReading, IsRun}
use Rattle.capn_canon.specs.MemoryNeed.{MayNeedMemory}
use Rattle.capn_canon.specs.declared.form.Form.{Form}
use Rattle.capn_canon.specs.declared.refusal.Refusal.{Refusal}
use Rattle.capn_canon.specs.declared.refusal.Refusal.TheVariants as refusals
use Rattle.capn_answers.proofs.shared.Reading.{reading_unaccepted, reading_within}
use Rattle.capn_abi.specs.StatusCodes.{Reports}
use Rattle.capn_abi.specs.declared.report.CapnReport.{CapnReport}
use Rattle.capn_c.specs.Entries.{table_length}
use Rattle.capn_c.specs.declared.entries.CapnEntry.{CapnEntry}
use Rattle.capn_c.specs.Held.{IsHeldOr}
use Rattle.capn_c.specs.inner.Reported.{IsFilledHeld, IsFilledIn, IsFilledOf, IsIndexedIn, IsIndexedOf}
use Rattle.capn_c.specs.inner.RunHeld.{IsRunHeld}
use Rattle.capn_c.proofs.Filled.{filled_held, filled_in}
use Rattle.capn_c.proofs.HeldRuns.{held_not_unaccepted, unheld_unaccepted, unheld_within}
use Rattle.capn_c.proofs.Indexed.{indexed_in}
use Rattle.capn_c.proofs.Listed.{held_listed}
use Rattle.capn_c.proofs.OfMessage.{held_asks, held_refused}
use Rattle.capn_c.proofs.OutOfMemory.{many_needed, unaccepted_refused}
use Rattle.capn_c.proofs.Reported.{not_filled, refused_filled, reported, unaccepted_indexed}

reading_needs : (form : Form) (bs : List ℕ) (limits : Bounds) (e : Refusal) → IsRefusedReading form bs limits e
    → e ≡ refusals.Memory → MayNeedMemory form bs limits
reading_needs form bs limits e h is = subst (λ (x : Refusal). IsRefusedReading form bs limits x) is h

-- ---- a task of the type `S`, whose buffer is `out` and whose report is `told`

module _ {S : Type 0} (out : S → List ℕ) (told : S → CapnReport) (kept : S → S → Type 0) (form : Form) (bs : List ℕ)
    (limits : Bounds) (old new : S) where
  -- The result `r` of a run of the task that writes canonical bytes.
  abbrev IsFilledRun : Result ℕ Refusal → Type 0
  IsFilledRun r = IsRun form bs limits
      (λ (task : S) m l x (after : S). kept task after × IsFilledOf m l (out task) (out after) (told after) x) old r new

  pub run_filled : (status : ℕ) → IsFilledRun (Ok status)
      → IsFilledIn form bs limits (MayNeedMemory form bs limits) (out old) (out new) status (told new)
  run_filled status (inl (m, reads, h)) = filled_in m limits (out old) (out new) form bs status (told new) reads h.1
  run_filled status (inr (e, is, h, same)) = absurd cc

  pub unread_filled : (e : Refusal) (status : ℕ) (report : CapnReport) → Reports status report e
      → IsFilledRun (Err e)
      → IsFilledIn form bs limits (MayNeedMemory form bs limits) (out old) (out new) status report
  unread_filled e status report r (inl (m, reads, h)) = absurd h.1
  unread_filled e status report r (inr (f, is, h, same)) =
      let one : f ≡ e = cc in
      let unread = subst (λ (x : Refusal). IsRefusedReading form bs limits x) one h in
      subst (λ (x : List ℕ). IsFilledIn form bs limits (MayNeedMemory form bs limits) (out old) x status report)
      (sym (ap out same))
      (refused_filled form bs limits status report e r (reading_within form bs limits e unread)
      (reading_needs form bs limits e unread) (out old)
      (unaccepted_refused form bs limits e (reading_unaccepted form bs limits e unread)))

-- ---- the same task, on segments

module _ {S : Type 0} (out : S → List ℕ) (told : S → CapnReport) (kept : S → S → Type 0) (m : List (List ℕ))
    (limits : Bounds) (old new : S) where
  -- The result `r` of a run of the task that writes canonical bytes.
  abbrev IsFilledHeldRun : Result ℕ Refusal → Type 0
  IsFilledHeldRun r = IsRunHeld m limits
      (λ (task : S) n l x (after : S). kept task after × IsFilledOf n l (out task) (out after) (told after) x) old r new

  pub run_held_filled : (status : ℕ) → IsFilledHeldRun (Ok status)
      → IsFilledHeld m limits (out old) (out new) status (told new)
  run_held_filled status (inl (held, h)) = filled_held m limits (out old) (out new) m status (told new) refl held h.1
  run_held_filled status (inr (e, is, h, same)) = absurd cc

  pub unheld_filled : (e : Refusal) (status : ℕ) (report : CapnReport) → Reports status report e
      → IsFilledHeldRun (Err e) → IsFilledHeld m limits (out old) (out new) status report
  unheld_filled e status report r (inl (held, h)) = absurd h.1
  unheld_filled e status report r (inr (f, is, h, same)) =
      let one : f ≡ e = cc in
      let unheld = subst (λ (x : Refusal). IsHeldOr m limits (Err x)) one h in
      let refused = held_refused m limits e unheld in
      subst (λ (x : List ℕ). IsFilledHeld m limits (out old) x status report) (sym (ap out same))
      (not_filled status report e r limits (out old) (out old)
      (reported limits.budget status report e r refused (held_listed m limits e refused) (held_asks m limits e unheld)
      (unheld_within m limits e unheld)) refl
      (λ v d n. held_not_unaccepted m limits v e d (unheld_unaccepted m limits e unheld)))

-- ---- a task of the type `S`, whose form is `form_of`, whose entries are `out` and whose report is `told`

module _ {S : Type 0} (form_of : S → Form) (out : S → List CapnEntry) (told : S → CapnReport) (kept : S → S → Type 0)
    (bs : List ℕ) (limits : Bounds) (old new : S) where
  -- The result `r` of a run of the task that writes an index.
  abbrev IsIndexRun : Result ℕ Refusal → Type 0
  IsIndexRun r = IsRun (form_of old) bs limits
      (λ (task : S) m l x (after : S). kept task after
      × IsIndexedOf (form_of task) m l (out task) (out after) (told after) x) old r new

  pub run_indexed : (status : ℕ) → IsIndexRun (Ok status)
      → IsIndexedIn (form_of old) bs limits (MayNeedMemory (form_of old) bs limits) (out old) (out new) status
      (told new)
  run_indexed status (inl (m, reads, h)) =
      indexed_in (form_of old) bs m (table_length (form_of old) m) limits (out old) (out new) status (told new) reads
      refl (many_needed (form_of old) bs limits m reads) h.1
  run_indexed status (inr (e, is, h, same)) = absurd cc

  pub unread_indexed : (e : Refusal) (status : ℕ) (report : CapnReport) → Reports status report e → IsIndexRun (Err e)
      → IsIndexedIn (form_of old) bs limits (MayNeedMemory (form_of old) bs limits) (out old) (out new) status report
  unread_indexed e status report r (inl (m, reads, h)) = absurd h.1
  unread_indexed e status report r (inr (f, is, h, same)) =
      let one : f ≡ e = cc in
      let form = form_of old in
      let unread = subst (λ (x : Refusal). IsRefusedReading form bs limits x) one h in
      subst
      (λ (x : List CapnEntry). IsIndexedIn form bs limits (MayNeedMemory form bs limits) (out old) x status report)
      (sym (ap out same))
      (unaccepted_indexed form bs limits status report e r (reading_within form bs limits e unread)
      (reading_needs form bs limits e unread) (out old) (reading_unaccepted form bs limits e unread))
