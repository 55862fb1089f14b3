-- Lemmas for `one_message.rt` and `whole_input.rt`: the first bytes of an input, at most one byte more than the longest
-- frame, determine the result.
use Rattle.std.proofs.Common.{◌≡◌, ◌⊎◌, inl, inr, ℕ, ◌+◌, ◌*◌, ◌<◌, ◌≤◌, List, length, take, drop}
use Rattle.std.proofs.Common.{subst, arith, length-take, take-append-drop, Result, Ok, Err, Vec}
use Rattle.std.proofs.lemmas.Bool.{cases_lt}
use Rattle.std.proofs.lemmas.Bool.Decides.{nat_tests}
use Rattle.std.proofs.lemmas.List.{take-take, take_all}
use Rattle.capn_stream.specs.Frames.{most_table_words, padding, Frames}
use Rattle.capn_stream.specs.FrameRefusal as frames
use Rattle.capn_stream.proofs.shared.FrameLaws.{announces, stands_alone}
use Rattle.capn_stream.proofs.shared.Longer.{IsStop-append}
use Rattle.capn_stream.specs.declared.fault.FrameFault.{FrameFault}
use Rattle.capn_stream.specs.declared.fault.FrameFault.TheVariants as frame_faults
use Rattle.capn_pack.specs.Packed.{Packs}
use Rattle.capn_pack.specs.declared.fault.UnpackFault.{UnpackFault}
use Rattle.capn_walk.specs.Limits.{Bounds}
use Rattle.capn_canon.specs.Denotes.{Answers}
use Rattle.capn_canon.specs.Reads.{IsFramed, Trails}
use Rattle.capn_canon.specs.Refusal.{IsMisframed, IsRefused}
use Rattle.capn_canon.specs.declared.form.Form.TheVariants as forms
use Rattle.capn_canon.specs.declared.refusal.Refusal.{Refusal}
use Rattle.capn_canon.specs.declared.refusal.Refusal.TheVariants as refusals
use Rattle.capn_commands.specs.WholeInput.{Gives, MakesNothing}
use Rattle.capn_commands.specs.declared.plan.Whole.TheVariants as wholes
use Rattle.capn_commands.specs.declared.fault.ToolFault.{ToolFault}
use Rattle.capn_commands.specs.declared.fault.ToolFault.TheVariants as faults

padding_le : (count : ℕ) → padding count ≤ 4
padding_le count = grind (arith, nat_tests)

framed_length : (bs : List ℕ) (most : ℕ) (message : List (List ℕ)) → IsFramed bs most message
    → length bs ≤ 8 * (most + most_table_words)
framed_length bs most message f =
    let a = announces bs most message (length bs) (stands_alone bs most message f.frame f.room) in
    let pad = padding_le (frames.announced_segments bs) in
    omega (arith, pad, a.length_is, a.count, a.words, f.frame.fits.few, f.room)

cut_length : (bs : List ℕ) (most : ℕ) → frames.IsCut bs most → length bs < 8 * (most + most_table_words)
cut_length bs most (inl first) = omega (arith, first.1)
cut_length bs most (inr (inl table)) =
    omega (arith, padding_le (frames.announced_segments bs), table.0.1, table.1)
cut_length bs most (inr (inr contents)) =
    omega (arith, padding_le (frames.announced_segments bs), contents.0.0.1, contents.1, contents.2)

module _ (n most : ℕ) (bytes : List ℕ) (enough : 8 * (most + most_table_words) < n) where
  -- If `n` is more than the length of the longest frame, and `take n bytes` is one frame, it is all of `bytes`.
  pub framed_first : (message : List (List ℕ)) → IsFramed (take n bytes) most message → take n bytes ≡ bytes
  framed_first message f =
      take_all n bytes (omega (arith, enough, length-take n bytes, framed_length (take n bytes) most message f))

  refused_first : (e : FrameFault) → (e ≡ frame_faults.Memory → ⊥) → n < length bytes
      → frames.IsFrameRefused (take n bytes) most e → frames.IsFrameRefused bytes most e
  refused_first frame_faults.Memory other more h = tt
  refused_first frame_faults.Empty other more h = absurd (omega (arith, enough, more, h, length-take n bytes))
  refused_first (frame_faults.TooManySegments k) other more h =
      subst (λ (bs : List ℕ). frames.IsFrameRefused bs most (frame_faults.TooManySegments k)) (take-append-drop n bytes)
      (IsStop-append (take n bytes) (drop n bytes) most (frame_faults.TooManySegments k) h)
  refused_first (frame_faults.TooManyWords k) other more h =
      subst (λ (bs : List ℕ). frames.IsFrameRefused bs most (frame_faults.TooManyWords k)) (take-append-drop n bytes)
      (IsStop-append (take n bytes) (drop n bytes) most (frame_faults.TooManyWords k) h)
  refused_first frame_faults.Cut other more h =
      absurd (omega (arith, enough, more, length-take n bytes, cut_length (take n bytes) most h))
  refused_first frame_faults.Failed other more h = h

  trails_first : (at : ℕ) → Trails (take n bytes) most at → Trails bytes most at
  trails_first at (message, first, more) =
      let size = length-take n bytes in (
        message,
        record {
          inside = omega (arith, size, first.inside);
          frame =
              subst (λ (bs : List ℕ). Frames bs message) (take-take at n bytes (omega (arith, size, first.inside)))
              first.frame;
          room = first.room;
        },
        omega (arith, size, more),
      )

  pub misframed_first : (r : Refusal) → IsMisframed (take n bytes) most r → IsMisframed bytes most r
  misframed_first (refusals.Frame e) (other, h) = elim (cases_lt n (length bytes)) [
    | inl more ↦ (other, refused_first e other more h)
    | inr all ↦ (other, subst (λ (bs : List ℕ). frames.IsFrameRefused bs most e) (take_all n bytes all) h)
  ]
  misframed_first (refusals.Trailing at) h = trails_first at h
  misframed_first refusals.Memory h = h
  misframed_first (refusals.Bare e) h = h
  misframed_first (refusals.Packed e) h = h
  misframed_first (refusals.Walk s) h = h
  misframed_first (refusals.Capability k) h = h

module _ (n : ℕ) (limits : Bounds) (bytes : List ℕ) (enough : 8 * (limits.message_words + most_table_words) < n) where
  refusal_first : (r : Refusal) → IsRefused forms.Stream (take n bytes) limits r → IsRefused forms.Stream bytes limits r
  refusal_first (refusals.Walk s) (message, f, h) =
      let same = framed_first n limits.message_words bytes enough message f in
      (message, subst (λ (bs : List ℕ). IsFramed bs limits.message_words message) same f, h)
  refusal_first (refusals.Capability k) (message, f, h) =
      let same = framed_first n limits.message_words bytes enough message f in
      (message, subst (λ (bs : List ℕ). IsFramed bs limits.message_words message) same f, h)
  refusal_first refusals.Memory h = h
  refusal_first (refusals.Frame e) h = misframed_first n limits.message_words bytes enough (refusals.Frame e) h
  refusal_first (refusals.Trailing at) h =
      misframed_first n limits.message_words bytes enough (refusals.Trailing at) h
  refusal_first (refusals.Bare e) h = h
  refusal_first (refusals.Packed e) h = h

  -- If `n` is more than the length of the longest frame, a result for the first `n` bytes is a result for all `bytes`.
  pub gives_first : {A : Type 0} (r : Result (Vec ℕ A) ToolFault)
      → Gives (wholes.Canonical forms.Stream limits) (take n bytes) r
      → Gives (wholes.Canonical forms.Stream limits) bytes r
  gives_first (Ok text) (price, a) =
      let same = framed_first n limits.message_words bytes enough a.message a.reads in
      (price, subst (λ (bs : List ℕ). Answers forms.Stream bs limits text.items price) same a)
  gives_first (Err fault) (inl m) = inl m
  gives_first (Err fault) (inr (r, is, other, h)) = inr (r, is, other, refusal_first r h)

-- Cases: `bytes` are a packed text of `words`, which are no longer than the longest frame.
module _ (limits : Bounds) (bytes words : List ℕ) (packs : Packs bytes words)
    (room : length words ≤ 8 * (limits.message_words + most_table_words)) where
  refusal_packed : (r : Refusal) → IsRefused forms.Stream words limits r → IsRefused forms.Packed bytes limits r
  refusal_packed (refusals.Walk s) (message, f, h) =
      (message, (words, record { packs = packs; room = room }, f), h)
  refusal_packed (refusals.Capability k) (message, f, h) =
      (message, (words, record { packs = packs; room = room }, f), h)
  refusal_packed refusals.Memory h = h
  refusal_packed (refusals.Frame e) h = (words, record { packs = packs; room = room }, h)
  refusal_packed (refusals.Trailing at) h = (words, record { packs = packs; room = room }, h)
  refusal_packed (refusals.Bare e) h = absurd h
  refusal_packed (refusals.Packed e) h = absurd h

  pub gives_packed : {A : Type 0} (r : Result (Vec ℕ A) ToolFault)
      → Gives (wholes.Canonical forms.Stream limits) words r
      → Gives (wholes.Canonical forms.Packed limits) bytes r
  gives_packed (Ok text) (price, a) = (
    price,
    record {
      message = a.message;
      reads = (words, record { packs = packs; room = room }, a.reads);
      answer = a.answer;
    },
  )
  gives_packed (Err fault) (inl m) = inl m
  gives_packed (Err fault) (inr (r, is, other, h)) = inr (r, is, other, refusal_packed r h)

pub fails_unpacked : (limits : Bounds) (bytes : List ℕ) (fault : ToolFault)
    → (fault ≡ faults.Memory)
    ⊎ MakesNothing (wholes.Unpacked (limits.message_words + most_table_words)) bytes fault
    → (fault ≡ faults.Memory) ⊎ MakesNothing (wholes.Canonical forms.Packed limits) bytes fault
fails_unpacked limits bytes fault (inl m) = inl m
fails_unpacked limits bytes fault (inr (e, is, other, h)) = inr (refusals.Packed e, is, apart e, (other, h))
  where
    apart : (e : UnpackFault) → refusals.Packed e ≡ refusals.Memory → ⊥
    apart e same = cc
