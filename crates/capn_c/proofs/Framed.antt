-- A message that is held in segments has the canonical bytes and the refusals of a frame of the same segments. (For
-- `segments`.)
use Rattle.std.proofs.Common.{◌≡◌, ℕ, suc, [], ◌∷◌, ◌-◌, ◌*◌, ◌^◌, ◌<◌, ◌≤◌, List, length, subst, sym, ◌∙◌, arith}
use Rattle.std.proofs.Math.Nat.{min-eq_left}
use Rattle.std.proofs.lemmas.List.Sums.{sum_by-cons}
use Rattle.capn_words.specs.Message.{segment_at, total}
use Rattle.capn_stream.specs.Segments.{IsHeld}
use Rattle.capn_stream.specs.Frames.{Frames}
use Rattle.capn_stream.specs.declared.fault.FrameFault.{FrameFault}
use Rattle.capn_stream.specs.declared.fault.FrameFault.TheVariants as frame
use Rattle.capn_stream.proofs.shared.FrameLaws.{announces, one_frame, stands_alone, whole_of}
use Rattle.capn_canon.specs.Denotes.{AnswersMessage}
use Rattle.capn_canon.specs.Reads.{IsFramed}
use Rattle.capn_canon.specs.Refusal.{IsMisframed}
use Rattle.capn_canon.specs.declared.refusal.Refusal.TheVariants as refusals
use Rattle.capn_c.specs.AsFramed.{HeldAreAnsweredAsFramed, HeldAreRefusedAsFramed}
use Rattle.capn_c.specs.Held.{IsMisheld}

framed_held : (bs : List ℕ) (message : List (List ℕ)) (most : ℕ) → IsFramed bs most message → IsHeld message most
framed_held bs message most h = record { some = h.frame.fits.some; few = h.frame.fits.few; room = h.room }

held_framed : (bs : List ℕ) (message : List (List ℕ)) (most : ℕ) → Frames bs message → IsHeld message most
    → IsFramed bs most message
held_framed bs message most f h = record { frame = f; room = h.room }

one_held : (bs : List ℕ) (m n : List (List ℕ)) → Frames bs m → Frames bs n → m ≡ n
one_held bs m n f g =
    (one_frame bs (total m) (total n) m n (length bs) (length bs) (stands_alone bs (total m) m f (omega arith))
    (stands_alone bs (total n) n g (omega arith))).0

pub answered_as_framed : HeldAreAnsweredAsFramed
answered_as_framed bs message limits f text price = (
  (λ h. record {
    message = message;
    reads = held_framed bs message limits.message_words f h.held;
    answer = h.answer;
  }),
  (λ h.
      let same = one_held bs h.message message h.reads.frame f in
      record {
        held = subst (λ (m : List (List ℕ)). IsHeld m limits.message_words) same
            (framed_held bs h.message limits.message_words h.reads);
        answer = subst (λ (m : List (List ℕ)). AnswersMessage m limits text price) same h.answer;
      }),
)

few_words : (message : List (List ℕ)) → ((s : ℕ) → length (segment_at message s) < 2 ^ 32)
    → total message ≤ length message * 2 ^ 32
few_words [] h = omega arith
few_words (ws ∷ message) h =
    let first = h 0 in
    let rest = few_words message (λ s. h (suc s)) in
    omega (arith, sum_by-cons length ws message, first, rest)

announced_few : (bs : List ℕ) (message : List (List ℕ)) → Frames bs message → total message ≤ 2 ^ 64 - 1
announced_few bs message f = omega (arith, few_words message f.fits.sizes, f.fits.few)

misheld_as_framed : (bs : List ℕ) (message : List (List ℕ)) (most : ℕ) → Frames bs message → (e : FrameFault)
    → IsMisheld message most e → IsMisframed bs most (refusals.Frame e)
misheld_as_framed bs message most f frame.Memory h = absurd h
misheld_as_framed bs message most f frame.Empty h = absurd (omega (arith, h, f.fits.some))
misheld_as_framed bs message most f (frame.TooManySegments n) h = absurd (omega (arith, h.0, h.1, f.fits.few))
misheld_as_framed bs message most f (frame.TooManyWords n) h =
    let stands = stands_alone bs (total message) message f (omega arith) in
    let told = announces bs (total message) message (length bs) stands in
    let whole = whole_of bs (total message) message (length bs) stands in
    let exact = h.3 ∙ min-eq_left (announced_few bs message f) in
    ((λ x. cc), (whole.0, exact ∙ sym told.words, omega (arith, exact, h.2)))
misheld_as_framed bs message most f frame.Cut h = absurd h
misheld_as_framed bs message most f frame.Failed h = absurd h

pub refused_as_framed : HeldAreRefusedAsFramed
refused_as_framed bs message limits f (refusals.Walk s) h =
    (message, held_framed bs message limits.message_words f h.0, h.1)
refused_as_framed bs message limits f (refusals.Capability k) h =
    (message, held_framed bs message limits.message_words f h.0, h.1)
refused_as_framed bs message limits f refusals.Memory h = tt
refused_as_framed bs message limits f (refusals.Frame e) h = misheld_as_framed bs message limits.message_words f e h
refused_as_framed bs message limits f (refusals.Trailing at) h = absurd h
refused_as_framed bs message limits f (refusals.Bare e) h = absurd h
refused_as_framed bs message limits f (refusals.Packed e) h = absurd h
