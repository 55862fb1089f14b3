-- Lemmas for `add_frame`, `add_kept`, `serve_canonical`, `serve_digests` and `serve_list`: text that is added in two
-- parts, and the text for a message.
use Rattle.std.proofs.Common.{◌≡◌, ℕ, List, [], ◌++◌, length, take, Bool, false, Option, Result, Ok, Err}
use Rattle.std.proofs.Common.{IsErrAnd, refl, ap, sym, subst, ◌∙◌, append-nil}
use Rattle.std.proofs.Math.Seq.{take-append_seam}
use Rattle.std.proofs.KnownBytes.{Appends-nil}
use Rattle.sha2.specs.Sha256.{sha256}
use Rattle.capn_walk.specs.Limits.{Bounds}
use Rattle.capn_walk.specs.Accepted.{paid}
use Rattle.capn_canon.specs.Denotes.{AnswersMessage}
use Rattle.capn_canon.specs.Layout.{canon}
use Rattle.capn_canon.specs.MemoryNeed.{MayNeedBytes}
use Rattle.capn_serve.specs.declared.position.Position.{Position}
use Rattle.capn_serve.specs.declared.fault.ServeFault.{ServeFault}
use Rattle.capn_serve.specs.declared.fault.ServeFault.TheVariants as faults
use Rattle.capn_serve.specs.Outgoing.{Outgoing, Adds, AddsBytes, outgoing}
use Rattle.capn_serve.proofs.shared.Adding.{added_both, added_none, broken_after, broken_before}
use Rattle.capn_archive.specs.CanonicalFrame.{AddsText, PutsText, framed}
use Rattle.capn_archive.specs.Digest.{IsDigest}
use Rattle.capn_archive.specs.MessageHead.{head_of}
use Rattle.capn_archive.specs.Tasks.{AddsServed, IsServedBy}
use Rattle.capn_archive.specs.declared.message_head.MessageHead.{MessageHead}
use Rattle.capn_archive.specs.declared.task.Task.{Task}
use Rattle.capn_archive.specs.declared.task.Task.TheVariants as tasks
use Rattle.capn_archive.specs.declared.tally.Tally.{Tally}

abbrev Ending : Type 0
Ending = Result (Unit {0}) ServeFault

abbrev stopped : ServeFault → Ending
stopped fault = Err fault

pub text_added : (text : List ℕ) (a b : Outgoing) (failed : Bool) (r : Ending) → AddsBytes text a b failed r
    → AddsText text a b failed r
text_added text a b failed (Ok u) (adds, short, fine) = (adds, fine, λ h. short)
text_added text a b failed (Err faults.Memory) (none, short, fine) = ((0, none), fine)
text_added text a b failed (Err faults.Io) (breaks, broken) = (breaks, broken)
text_added text a b failed (Err (faults.Refused r)) none = absurd none

module _ (front back : List ℕ) where
  -- Case: if `front` was added, and then `back` or a prefix of `back`, `AddsText` holds for `front ++ back`.
  pub both_added : (a b c : Outgoing) (failed : Bool) (r : Ending) → Adds a b front → AddsBytes back b c failed r
      → AddsText (front ++ back) a c failed r
  both_added a b c failed (Ok u) first (second, short, fine) =
      (added_both a b c front back first second, fine, λ h. short)
  both_added a b c failed (Err faults.Memory) first (none, short, fine) =
      let seam : front ++ [] ≡ take (length front) (front ++ back) =
      append-nil front ∙ sym (take-append_seam front back) in
      ((length front, subst (Adds a c) seam (added_both a b c front [] first none)), fine)
  both_added a b c failed (Err faults.Io) first ((count, breaks), broken) =
      (broken_after a b c front back count first breaks, broken)
  both_added a b c failed (Err (faults.Refused r)) first none = absurd none

  front_stopped : (a b : Outgoing) (failed : Bool) (fault : ServeFault) → AddsBytes front a b failed (stopped fault)
      → AddsText (front ++ back) a b failed (stopped fault)
  front_stopped a b failed faults.Memory (none, short, fine) = ((0, none), fine)
  front_stopped a b failed faults.Io ((count, breaks), broken) =
      (broken_before a b front back count breaks, broken)
  front_stopped a b failed (faults.Refused r) none = absurd none

  -- Case: if `fault` ended the call before all of `front` was added, `AddsText` holds for `front ++ back`.
  pub none_added : (a b : Outgoing) (failed : Bool) (fault : ServeFault) (r : Ending) → IsErrAnd r (λ e. e ≡ fault)
      → AddsBytes front a b failed (stopped fault) → AddsText (front ++ back) a b failed r
  none_added a b failed fault (Ok u) is put = absurd is
  none_added a b failed fault (Err e) is put =
      subst (λ (g : ServeFault). AddsText (front ++ back) a b failed (stopped g)) (sym is)
      (front_stopped a b failed fault put)

module _ (message : List (List ℕ)) (limits : Bounds) where
  pub some_bytes : MayNeedBytes message limits → (answer : List ℕ) × (price : ℕ)
      × AnswersMessage message limits answer price
  some_bytes (v, is, free) = (
    canon v,
    paid message limits,
    record { value = v; is = is; free = free; canonical = refl; priced = refl },
  )

  pub some_digest : MayNeedBytes message limits → (digest : List ℕ) × IsDigest message limits digest
  some_digest needs =
      let made = some_bytes needs in
      (sha256 made.0, (made.0, made.1, made.2, refl))

module _ (limits : Bounds) (tally : Tally) (at : Position) (frame : List ℕ) (message : List (List ℕ)) where
  pub frame_added : (answer : List ℕ) (price : ℕ) → AnswersMessage message limits answer price → (a b : Outgoing)
      (failed : Bool) (r : Ending) → AddsText (framed answer) a b failed r
      → AddsServed tasks.Canonical limits tally at frame message a b failed r tally
  frame_added answer price is a b failed (Ok u) (adds, fine, short) =
      (framed answer, (answer, price, is, refl, refl), adds, fine)
  frame_added answer price is a b failed (Err faults.Memory) ((count, adds), fine) =
      ((framed answer, tally, count, (answer, price, is, refl, refl), adds), fine)
  frame_added answer price is a b failed (Err faults.Io) ((count, breaks), broken) =
      ((framed answer, tally, count, (answer, price, is, refl, refl), breaks), broken)
  frame_added answer price is a b failed (Err (faults.Refused r)) none = absurd none

  -- Case: memory for the canonical bytes was refused, and nothing was added.
  pub frame_unmade : MayNeedBytes message limits → (a : Outgoing) (failed : Bool) → failed ≡ false
      → AddsServed tasks.Canonical limits tally at frame message a a failed (stopped faults.Memory) tally
  frame_unmade needs a failed fine =
      let made = some_bytes message limits needs in
      ((framed made.0, tally, 0, (made.0, made.1, made.2, refl, refl), added_none a), fine)

  pub line_added : (task : Task) (line : MessageHead → List ℕ) (head : MessageHead) → head ≡ head_of at frame message
      → IsServedBy task limits tally at frame message (line (head_of at frame message)) tally
      → (c : Option (List ℕ)) (old new : List ℕ) (r : Ending) → PutsText (line head) old new r
      → AddsServed task limits tally at frame message (outgoing c old) (outgoing c new) false r tally
  line_added task line head same is c old new (Ok u) put =
      let joined = put ∙ ap (λ (h : MessageHead). old ++ line h) same in
      (line (head_of at frame message), is, ([], Appends-nil c, joined), refl)
  line_added task line head same is c old new (Err faults.Memory) put =
      let none : Adds (outgoing c old) (outgoing c new) [] = ([], Appends-nil c, put.1 ∙ sym (append-nil old)) in
      ((line (head_of at frame message), tally, 0, is, none), refl)
  line_added task line head same is c old new (Err faults.Io) put = absurd (let bad = put.0 in cc)
  line_added task line head same is c old new (Err (faults.Refused r)) put = absurd (let bad = put.0 in cc)
