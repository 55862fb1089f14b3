-- Lemmas for `deduplicate` and `serve` of `uniq`: a message that is served or skipped has the effect that the fold
-- states.
use Rattle.std.proofs.Common.{◌≡◌, inl, inr, ℕ, List, [], Bool, true, false, Option, Some, Result, Ok, Err, refl}
use Rattle.std.proofs.Common.{IsErrAnd, ap, sym, subst, ◌∙◌}
use Rattle.std.specs.FinSet.{FinSet}
use Rattle.std.specs.Ordering.{nat_cmp}
use Rattle.std.specs.Cmp.Lexicographic.{slice_cmp}
use Rattle.capn_canon.specs.declared.refusal.Refusal.{Refusal}
use Rattle.capn_serve.specs.declared.fault.ServeFault.{ServeFault}
use Rattle.capn_serve.specs.declared.fault.ServeFault.TheVariants as faults
use Rattle.capn_serve.specs.declared.position.Position.{Position}
use Rattle.capn_serve.specs.Outgoing.{Outgoing, Adds}
use Rattle.capn_serve.specs.Service.{DoesService}
use Rattle.capn_serve.proofs.shared.Adding.{added_none}
use Rattle.capn_archive.specs.CanonicalFrame.{AddsText}
use Rattle.capn_serve.specs.declared.skipped.SkippedSoFar.{SkippedSoFar}
use Rattle.capn_archive.specs.declared.uniq_order.UniqOrder.{UniqOrder}
use Rattle.capn_serve.specs.Skipped.{one_more}
use Rattle.capn_canon.specs.MemoryNeed.{MayNeedBytes}
use Rattle.capn_archive.specs.Digest.{IsDigest, IsUndigested}
use Rattle.capn_archive.specs.Tasks.{Finds}
use Rattle.capn_archive.specs.UniqMessages.{UniqState, IsSkipped, Deduplicates, and_one, has, one_served, refuses}
use Rattle.capn_archive.specs.UniqMessages.{serves, kept_text, TriesToDeduplicate}
use Rattle.capn_archive.proofs.FramesAdded.{some_digest}

-- The state of the service with `order`, `digests`, `served` and `skipped`.
abbrev pub state : UniqOrder → FinSet (slice_cmp nat_cmp) → ℕ → Option SkippedSoFar → UniqState
state order digests served skipped =
    record { order = order; digests = digests; served = served; skipped = skipped }

module _ (order : UniqOrder) (digests : FinSet (slice_cmp nat_cmp)) (served : ℕ) (skipped : Option SkippedSoFar) where
  pub deduplicates : (s : UniqState) → state order digests served skipped ≡ s → (frame digest : List ℕ)
      (message : List (List ℕ)) → IsDigest message order.limits digest → (is_duplicate : Bool)
      → is_duplicate ≡ has digests digest → (inserted : FinSet (slice_cmp nat_cmp)) → inserted ≡ and_one digests digest
      → (more : ℕ) → more ≡ one_served served
      → Deduplicates s frame message (kept_text order.count is_duplicate frame) (state order inserted more skipped)
  deduplicates s same frame digest message is is_duplicate double inserted note more one =
      subst (λ (t : UniqState). Deduplicates t frame message (kept_text order.count is_duplicate frame)
      (state order inserted more skipped)) same (
        digest,
        is,
        ap (λ (b : Bool). kept_text order.count b frame) double,
        ap (λ (n : FinSet (slice_cmp nat_cmp)). state order n more skipped) note
            ∙ ap (λ (m : ℕ). state order (and_one digests digest) m skipped) one,
      )

  pub is_skipped : (s : UniqState) → state order digests served skipped ≡ s → (at : Position) (message : List (List ℕ))
      (r : Refusal) → IsUndigested message order.limits r → order.keep_going ≡ true → (more : SkippedSoFar)
      → more ≡ one_more skipped at → IsSkipped s at message [] (state order digests served (Some more))
  is_skipped s same at message r undigested going more one =
      subst (λ (t : UniqState). IsSkipped t at message [] (state order digests served (Some more))) same
      (going, r, undigested, refl, ap (λ (k : SkippedSoFar). state order digests served (Some k)) one)

abbrev Ending : Type 0
Ending = Result (Unit {0}) ServeFault

abbrev stopped : ServeFault → Ending
stopped fault = Err fault

module _ (s : UniqState) (frame : List ℕ) (message : List (List ℕ)) (a b : Outgoing) (failed : Bool) where
  pub kept_added : (t : UniqState) (text : List ℕ) → Deduplicates s frame message text t → (r : Ending)
      → AddsText text a b failed r → TriesToDeduplicate s frame message a b failed r t
  kept_added t text is (Ok u) (adds, fine, short) = (text, is, adds, fine, short)
  kept_added t text is (Err faults.Memory) ((count, adds), fine) = ((text, t, count, is, adds), fine)
  kept_added t text is (Err faults.Io) ((count, breaks), broken) = ((text, t, count, is, breaks), broken)
  kept_added t text is (Err (faults.Refused r)) none = absurd none

  -- Case: if the message was served, or a fault ends the run, `DoesService` holds.
  pub tried_does : (t : UniqState) (at : Position) (r : Ending) → TriesToDeduplicate s frame message a b failed r t
      → ((e : Refusal) → r ≡ stopped (faults.Refused e) → s.order.keep_going ≡ false)
      → DoesService serves refuses s at frame message a b failed r t
  tried_does t at (Ok u) (text, is, adds, fine, short) ends = ((text, inl is, adds, fine), short)
  tried_does t at (Err faults.Memory) ((text, u, count, is, adds), fine) ends =
      (inr (text, u, count, inl is, adds), fine)
  tried_does t at (Err faults.Io) ((text, u, count, is, breaks), broken) ends =
      ((text, u, count, inl is, breaks), broken)
  tried_does t at (Err (faults.Refused e)) (undigested, same, kept, fine) ends =
      ((ends e refl, undigested), subst (λ (x : Outgoing). Adds a x []) (sym same) (added_none a), fine)

  -- Case: if an allocation was refused, or the writer failed, `DoesService` holds.
  pub fault_does : (t : UniqState) (at : Position) (fault other : ServeFault) → fault ≡ other
      → TriesToDeduplicate s frame message a b failed (stopped fault) t
      → ((e : Refusal) → stopped other ≡ stopped (faults.Refused e) → s.order.keep_going ≡ false)
      → DoesService serves refuses s at frame message a b failed (stopped other) t
  fault_does t at fault other same tried ends =
      tried_does t at (stopped other)
      (subst (λ (e : ServeFault). TriesToDeduplicate s frame message a b failed (stopped e) t) same tried) ends

  pub undigested : (t : UniqState) (fault : ServeFault) (r : Refusal) → fault ≡ faults.Refused r
      → TriesToDeduplicate s frame message a b failed (stopped fault) t
      → IsUndigested message s.order.limits r × (b ≡ a) × (t ≡ s) × (failed ≡ false)
  undigested t fault r same tried =
      subst (λ (e : ServeFault). TriesToDeduplicate s frame message a b failed (stopped e) t) same tried

  -- Case: if an allocation was refused before anything was added, `TriesToDeduplicate` holds.
  pub memory_refused : (t : UniqState) (digest : List ℕ) → IsDigest message s.order.limits digest → (fault : ServeFault)
      (r : Ending) → IsErrAnd r (λ e. e ≡ fault) → fault ≡ faults.Memory → Adds a b [] → failed ≡ false
      → TriesToDeduplicate s frame message a b failed r t
  memory_refused t digest has fault (Ok u) told is none fine = absurd told
  memory_refused t digest has fault (Err faults.Memory) told is none fine =
      ((_, _, 0, (digest, has, refl, refl), none), fine)
  memory_refused t digest has fault (Err faults.Io) told is none fine = absurd (cc)
  memory_refused t digest has fault (Err (faults.Refused r)) told is none fine = absurd (cc)

  abbrev Found : ServeFault → Type 0
  Found f =
      Finds (λ (d : List ℕ). IsDigest message s.order.limits d) (λ r. IsUndigested message s.order.limits r)
      (MayNeedBytes message s.order.limits) (Err f)

  stops : b ≡ a → failed ≡ false → (f : ServeFault) → Found f
      → TriesToDeduplicate s frame message a b failed (stopped f) s
  stops same fine faults.Memory needs =
      let made = some_digest message s.order.limits needs in
      let none = subst (λ (x : Outgoing). Adds a x []) (sym same) (added_none a) in
      ((_, _, 0, (made.0, made.1, refl, refl), none), fine)
  stops same fine faults.Io none = absurd none
  stops same fine (faults.Refused r) (why, other) = (why, same, refl, fine)

  -- Case: the message has no digest, or memory for its canonical bytes was refused.
  pub undigested_does : b ≡ a → failed ≡ false → (fault : ServeFault) → Found fault → (r : Ending)
      → IsErrAnd r (λ e. e ≡ fault) → TriesToDeduplicate s frame message a b failed r s
  undigested_does same fine fault none (Ok u) told = absurd told
  undigested_does same fine fault none (Err e) told = stops same fine e (subst Found (sym told) none)
