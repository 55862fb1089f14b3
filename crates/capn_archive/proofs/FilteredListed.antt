-- Lemmas for `let_through`: `list` accepts all that `filter` lets through.
use Rattle.std.proofs.Common.{◌≡◌, ◌≢◌, ◌⊎◌, inl, inr, ℕ, ◌≤◌, List, [], ◌∷◌, ◌++◌, length, take, Bool, false, Option}
use Rattle.std.proofs.Common.{None, Result, Ok, Err, refl, ap, sym, subst, ◌∙◌, append_assoc, arith}
use Rattle.std.proofs.Common.{append-nil, length-append}
use Rattle.std.proofs.Math.Seq.{take-length, take-append-le}
use Rattle.std.proofs.lemmas.Bool.{le-ltb}
use Rattle.std.proofs.lemmas.List.{length-take, take_all}
use Rattle.capn_words.specs.Message.{total}
use Rattle.capn_walk.specs.Limits.{Bounds}
use Rattle.capn_walk.specs.Accepted.{IsAccepted}
use Rattle.capn_stream.specs.Frames.{Frames, StandsFirst}
use Rattle.capn_stream.specs.declared.fault.FrameFault.{FrameFault}
use Rattle.capn_stream.specs.declared.fault.FrameFault.TheVariants as frame_faults
use Rattle.capn_stream.proofs.shared.FrameLaws.{refused_whole, stands_alone, whole_of, one_refusal}
use Rattle.capn_canon.specs.declared.form.Form.{Form}
use Rattle.capn_canon.specs.declared.form.Form.TheVariants as forms
use Rattle.capn_serve.specs.declared.fault.RunFault.{RunFault}
use Rattle.capn_serve.specs.declared.service.Run.{Run}
use Rattle.capn_serve.specs.Finish.{IsWholeText, last_result, last_text}
use Rattle.capn_serve.specs.Fold.{AreServed, EndsRefused, EndsUnframed, Fold, IsFolded, Part, end_of, frames_of}
use Rattle.capn_serve.specs.Fold.{texts_of}
use Rattle.capn_serve.specs.FormRun.{AreMessages, most_stream}
use Rattle.capn_serve.specs.StreamRun.{behind, has_more, taken_of}
use Rattle.capn_serve.specs.WhatCame.{Came}
use Rattle.capn_serve.proofs.shared.OneServing.{one_front}
use Rattle.capn_archive.specs.ArchiveRun as archives
use Rattle.capn_archive.specs.FilterRun as filters
use Rattle.capn_archive.specs.FilterMessages.{Passes, serves}
use Rattle.capn_archive.specs.Outcome.{outcome_after}
use Rattle.capn_archive.specs.Laws.{AreLetThrough, FilteredIsListed, FiltersAccepted, IsLetThrough, listing}
use Rattle.capn_archive.specs.Tasks as archive_tasks
use Rattle.capn_archive.specs.Tasks.{IsRefusedBy, IsServedBy, IsSkippedBy}
use Rattle.capn_archive.specs.declared.task.Task.TheVariants as tasks
use Rattle.capn_archive.specs.declared.tally.Tally.{Tally}
use Rattle.capn_serve.specs.declared.position.Position.{Position}
use Rattle.capn_archive.specs.declared.archive_service.ArchiveService.{ArchiveService}
use Rattle.capn_archive.specs.declared.fault.ArchiveFault.{ArchiveFault}
use Rattle.capn_archive.specs.declared.filter_order.FilterOrder.{FilterOrder}
use Rattle.capn_archive.specs.declared.filter_service.FilterService.{FilterService}
use Rattle.capn_serve.specs.declared.skipped.SkippedSoFar.{SkippedSoFar}
use Rattle.capn_archive.specs.declared.task.ArchiveOrder.{ArchiveOrder}
use Rattle.capn_archive.proofs.OneFilter.{accepted_of, not_refused}
use Rattle.capn_archive.proofs.OneWhole.{no_text}

abbrev Ending : Type 0
Ending = Result (Unit {0}) RunFault

abbrev Last : Type 0
Last = Result (Unit {0}) ArchiveFault

abbrev Filtering : Type 0
Filtering = Run FilterService

abbrev Listing : Type 0
Listing = Run ArchiveService

module _ (order : FilterOrder) where
  abbrev limits : Bounds
  limits = order.limits

  -- ---- what a filter lets through

  abbrev f : Fold Filtering
  f = filters.filter_fold order

  -- `text` is frames of messages that `filter` lets through, and is no longer than `bytes`.
  record Kept (text bytes : List ℕ) : Type 0 where
    pub parts : List Part
    pub each : AreLetThrough order parts
    pub is : text ≡ frames_of parts
    pub short : length text ≤ length bytes

  one_kept : (p : Part) (text bytes : List ℕ) → Frames p.frame p.message → total p.message ≤ order.limits.message_words
      → Passes order.canonical p.message order.limits → p.text ≡ p.frame → Kept text bytes
      → Kept (p.text ++ text) (p.frame ++ bytes)
  one_kept p text bytes framed room passes own kept = record {
    parts = p ∷ kept.parts;
    each = (framed, room, passes, kept.each);
    is = λ i. own i ++ kept.is i;
    short = omega (
      arith,
      kept.short,
      ap length own,
      length-append p.text text,
      length-append p.frame bytes,
    );
  }

  none_kept : (p : Part) (text bytes : List ℕ) → p.text ≡ [] → Kept text bytes
      → Kept (p.text ++ text) (p.frame ++ bytes)
  none_kept p text bytes none kept = record {
    parts = kept.parts;
    each = kept.each;
    is = ap (λ (l : List ℕ). l ++ text) none ∙ kept.is;
    short = omega (
      arith,
      kept.short,
      ap length none,
      length-append p.text text,
      length-append p.frame bytes,
    );
  }

  more_kept : (s t : FilterService) (at : Position) (p : Part) (text bytes : List ℕ) → s.order ≡ order
      → Frames p.frame p.message → total p.message ≤ order.limits.message_words
      → serves s at p.frame p.message p.text t → (t.order ≡ order → Kept text bytes)
      → Kept (p.text ++ text) (p.frame ++ bytes)
  more_kept s t at p text bytes same framed room (inl (passes, own, stays)) next =
      one_kept p text bytes framed room
      (subst (λ (o : FilterOrder). Passes o.canonical p.message o.limits) same passes) own
      (next (ap (λ (x : FilterService). x.order) stays ∙ same))
  more_kept s t at p text bytes same framed room (inr (inl (going, held, none, after))) next =
      none_kept p text bytes none (next (ap (λ (x : FilterService). x.order) after ∙ same))
  more_kept s t at p text bytes same framed room (inr (inr (ends, held, none, after))) next =
      none_kept p text bytes none (next (ap (λ (x : FilterService). x.order) after ∙ same))

  kept_of : (x y : Filtering) (ps : List Part) → x.service.order ≡ order → AreServed f x ps y
      → Kept (texts_of ps) (frames_of ps)
  kept_of x y [] same is = record { parts = []; each = tt; is = refl; short = omega arith }
  kept_of x y (p ∷ ps) same (mid, part, step, more) =
      more_kept x.service mid.service x.at p (texts_of ps) (frames_of ps) same part.frame part.room step.0
      (λ next. kept_of mid y ps next more)

  through_of : (bytes text : List ℕ) (last : Option RunFault) (r : Ending) (y : Filtering)
      → IsFolded f (filters.first_run order) (taken_of most_stream bytes) last text r y → IsLetThrough order text
  through_of bytes text last r y due =
      let kept = kept_of (filters.first_run order) y due.parts refl due.are.each in
      record {
        parts = kept.parts;
        each = kept.each;
        is = due.joined ∙ kept.is;
        short = omega (
          arith,
          kept.short,
          ap length due.joined,
          ap length due.are.is,
          length-append (frames_of due.parts) due.rest,
          length-take most_stream bytes,
        );
      }

  of_messages : (form : Form) (input text : List ℕ) (r : Ending) (y : Filtering) → form ≢ forms.Bare
      → AreMessages f (filters.first_run order) form input text r y → IsLetThrough order text
  of_messages forms.Stream input text r y other due =
      through_of input text (behind (has_more most_stream input)) r y due
  of_messages forms.Packed input text r y other due = through_of due.stream text _ r y due.due
  of_messages forms.Bare input text r y other due = absurd (other refl)

  of_closed : (messages text : List ℕ) (served : Ending) (y : Filtering) (came : Came)
      → text ≡ messages ++ last_text filters.filter_finish served y came → text ≡ messages
  of_closed messages text (Ok u) y came is = is ∙ append-nil messages
  of_closed messages text (Err e) y came is =
      is ∙ ap (λ (l : List ℕ). messages ++ l) (no_text filters.filter_finish (λ z at r b. refl) e y came)
      ∙ append-nil messages

  of_whole : (input text : List ℕ) (r : Last) → order.form ≢ forms.Bare
      → IsWholeText f (filters.first_run order) filters.filter_finish order.form input text r
      → IsLetThrough order text
  of_whole input text r other (messages, served, y, came, are, tells, is, ends) =
      subst (λ (t : List ℕ). IsLetThrough order t) (sym (of_closed messages text served y came is))
      (of_messages order.form input messages served y other are)

  -- ---- a run of `list` over frames that are let through

  abbrev g : Fold Listing
  g = archives.archive_fold (listing limits)

  -- `r` is `Ok`, and no message was skipped from the state `x` to the state `y`.
  abbrev IsDone : Listing → Listing → Ending → Type 0
  IsDone x y r = (r ≡ Ok tt) × (y.service.tally.skipped ≡ x.service.tally.skipped)

  abbrev Open : Listing → List ℕ → Ending → Type 0
  Open y rest r = EndsUnframed g y rest None r ⊎ EndsRefused g y rest r

  first_whole : (p : Part) (more : List ℕ) → Frames p.frame p.message → total p.message ≤ limits.message_words
      → StandsFirst (p.frame ++ more) limits.message_words p.message (length p.frame)
  first_whole p more framed room =
      let front : take (length p.frame) (p.frame ++ more) ≡ p.frame =
      take-append-le (length p.frame) p.frame more (omega arith) ∙ take-length p.frame in
      record {
        inside = omega (arith, length-append p.frame more);
        frame = subst (λ (xs : List ℕ). Frames xs p.message) (sym front) framed;
        room = room;
      }

  -- A frame has at least one byte.
  no_frame : (frame more : List ℕ) (message : List (List ℕ)) → Frames frame message
      → total message ≤ limits.message_words → [] ≡ frame ++ more → ⊥
  no_frame frame more message framed room none =
      let is : length frame ≡ 0 = omega (arith, ap length none, length-append frame more) in
      let whole = whole_of frame limits.message_words message (length frame)
      (stands_alone frame limits.message_words message framed room) in
      let bad = refused_whole frame limits.message_words frame_faults.Empty whole is in cc

  ends_empty : (y : Listing) (r : Ending) → Open y [] r → r ≡ Ok tt
  ends_empty y r (inl (e, other, refused, is)) =
      let empty = one_refusal [] limits.message_words e frame_faults.Empty refused refl other (λ h. cc) in
      is ∙ ap (λ (x : FrameFault). end_of y.at x None) empty
  ends_empty y r (inr (frame, more, message, refusal, is, framed, room, why, e)) =
      absurd (no_frame frame more message framed room is)

  never_before : (y : Listing) (p : Part) (more : List ℕ) (r : Ending) → y.service.order ≡ listing limits
      → Frames p.frame p.message → total p.message ≤ limits.message_words → IsAccepted p.message limits
      → Open y (p.frame ++ more) r → ⊥
  never_before y p more r same framed room is (inl (e, other, refused, ends)) =
      other (refused_whole (p.frame ++ more) limits.message_words e
      (whole_of (p.frame ++ more) limits.message_words p.message (length p.frame) (first_whole p more framed room))
      refused)
  never_before y p more r same framed room is (inr (frame, after, message, refusal, joined, also, few, why, ends)) =
      let one = one_front limits.message_words frame p.frame after more message p.message also few framed room
      (sym joined) in
      let refused = subst (λ (o : ArchiveOrder). IsRefusedBy o.task message o.limits refusal) same why.1 in
      not_refused p.message limits refusal is
      (subst (λ (m : List (List ℕ)). IsRefusedBy tasks.List m limits refusal) one.0 refused)

  -- `list` without `--keep-going` skips no message.
  listed_tally : (tally after : Tally) (at : Position) (frame text : List ℕ) (message : List (List ℕ))
      → (IsServedBy tasks.List limits tally at frame message text after
      ⊎ IsSkippedBy (listing limits) tally at frame message text after) → after.skipped ≡ tally.skipped
  listed_tally tally after at frame text message (inl (measured, are, line, same)) =
      ap (λ (t : Tally). t.skipped) same
  listed_tally tally after at frame text message (inr (going, refusal, refused, line, counted)) = absurd (cc)

  listed : (s t : ArchiveService) (at : Position) (frame text : List ℕ) (message : List (List ℕ))
      → s.order ≡ listing limits → archive_tasks.serves s at frame message text t
      → (t.order ≡ listing limits) × (t.tally.skipped ≡ s.tally.skipped)
  listed s t at frame text message same (order, does) = (
    order ∙ same,
    listed_tally s.tally t.tally at frame text message (subst (λ (o : ArchiveOrder).
        IsServedBy o.task o.limits s.tally at frame message text t.tally
        ⊎ IsSkippedBy o s.tally at frame message text t.tally) same does),
  )

  -- A run of `list` over frames of accepted messages ends with `Ok`, and skips no message.
  done_of : (x y : Listing) (ks qs : List Part) (rest : List ℕ) (r : Ending) → x.service.order ≡ listing limits
      → AreLetThrough order ks → AreServed g x qs y → frames_of ks ≡ frames_of qs ++ rest → Open y rest r → IsDone x y r
  done_of x y [] [] rest r same are is joined ends_so = (
    ends_empty y r (subst (λ (l : List ℕ). Open y l r) (sym joined) ends_so),
    sym (ap (λ (w : Listing). w.service.tally.skipped) is),
  )
  done_of x y [] (q ∷ qs) rest r same are (mid, part, step, more) joined ends_so =
      absurd (no_frame q.frame (frames_of qs ++ rest) q.message part.frame part.room
      (joined ∙ append_assoc q.frame (frames_of qs) rest))
  done_of x y (k ∷ ks) [] rest r same (framed, room, passes, are) is joined ends_so =
      absurd (never_before y k (frames_of ks) r (ap (λ (w : Listing). w.service.order) (sym is) ∙ same) framed room
      (accepted_of k.message limits order.canonical passes) (subst (λ (l : List ℕ). Open y l r) (sym joined) ends_so))
  done_of x y (k ∷ ks) (q ∷ qs) rest r same (framed, room, passes, are) (mid, part, step, more) joined ends_so =
      let split = one_front limits.message_words k.frame q.frame (frames_of ks) (frames_of qs ++ rest) k.message
      q.message framed room part.frame part.room (joined ∙ append_assoc q.frame (frames_of qs) rest) in
      let next = listed x.service mid.service x.at q.frame q.text q.message same step.0 in
      let last = done_of mid y ks qs rest r next.0 are more split.1.1 ends_so in
      (last.0, last.1 ∙ next.1)

  closed : (served : Ending) (y : Listing) (s : Last) → IsDone (archives.first_run (listing limits)) y served
      → s ≡ last_result archives.archive_finish served y → s ≡ Ok tt
  closed (Ok u) y s (ends, none) last = last ∙ ap (λ (k : Option SkippedSoFar). outcome_after k y.at.index) none
  closed (Err e) y s (ends, none) last = absurd (cc)

  listed_all : (text lines : List ℕ) (s : Last) (ks : List Part) → AreLetThrough order ks → text ≡ frames_of ks
      → length text ≤ most_stream
      → IsWholeText g (archives.first_run (listing limits)) archives.archive_finish forms.Stream text lines s
      → s ≡ Ok tt
  listed_all text lines s ks are is short (messages, served, y, came, due, tells, lined, last) =
      let x = archives.first_run (listing limits) in
      let all : taken_of most_stream text ≡ text = take_all most_stream text short in
      let no_more : has_more most_stream text ≡ false = le-ltb most_stream (length text) short in
      let ends = subst (λ (b : Bool). IsFolded g x (taken_of most_stream text) (behind b) messages served y) no_more
      due in
      closed served y s
      (done_of x y ks ends.parts ends.rest served refl are ends.are.each (sym is ∙ sym all ∙ ends.are.is) ends.ends)
      last

pub filters_accepted : FiltersAccepted
filters_accepted order input text r other through = of_whole order input text r other through

pub filtered_listed : FilteredIsListed
filtered_listed order input text lines r s other through listed =
    let kept = of_whole order input text r other through in
    listed_all order text lines s kept.parts kept.each kept.is kept.short listed
