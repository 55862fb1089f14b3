-- The clauses of a call on segments are those of a call on a stream that is a frame of the segments. (For
-- `agreement.rt`.)
use Rattle.std.proofs.Common.{◌≡◌, ◌⊎◌, ℕ, inl, inr, List}
use Rattle.capn_stream.specs.Frames.{Frames}
use Rattle.capn_walk.specs.Limits.{Bounds}
use Rattle.capn_canon.specs.Denotes.{Answers}
use Rattle.capn_canon.specs.Refusal.{IsRefused}
use Rattle.capn_canon.specs.declared.form.Form.TheVariants as forms
use Rattle.capn_canon.specs.declared.refusal.Refusal.{Refusal}
use Rattle.capn_abi.specs.StatusCodes.{code, report_of}
use Rattle.capn_abi.specs.declared.report.CapnReport.{CapnReport}
use Rattle.capn_c.specs.Held.{AnswersHeld, IsRefusedHeld}
use Rattle.capn_c.proofs.Decided.{IsTold, Wrong, WrongLimits}
use Rattle.capn_c.proofs.DecidedAnswers.{IsPriceTold}
use Rattle.capn_c.proofs.DecidedHeld.{IsPriceHeldTold}
use Rattle.capn_c.proofs.DecidedRoom.{IsServedTold}
use Rattle.capn_c.proofs.Framed.{answered_as_framed, refused_as_framed}

-- The canonical bytes of segments are those of a frame of the segments.
pub answer : (bs : List ℕ) (m : List (List ℕ)) (limits : Bounds) → Frames bs m → (text : List ℕ) (price : ℕ)
    → AnswersHeld m limits text price → Answers forms.Stream bs limits text price
answer bs m limits frame text price h = (answered_as_framed bs m limits frame text price).0 h

-- ---- arguments out of their ranges

module _ (F L T : Type 0) (f : F) where
  with_form : (n : ℕ) → WrongLimits L T n → Wrong F L T n
  with_form n (inl (e, w)) = inr (inl (e, (f, w)))
  with_form n (inr (e, w)) = inr (inr (e, (f, w.0, w.1)))

  without_form : (n : ℕ) → Wrong F L T n → WrongLimits L T n
  without_form n (inl (e, w)) = absurd (w f)
  without_form n (inr (inl (e, w))) = inl (e, w.1)
  without_form n (inr (inr (e, w))) = inr (e, (w.1, w.2))

  each_widened : (D G : Type 0) (reason other : Refusal → Type 0) (s : ℕ) (r : CapnReport) → (D → G)
      → ((e : Refusal) → reason e → other e)
      → WrongLimits L T s ⊎ D ⊎ ((e : Refusal) × (s ≡ code e) × (r ≡ report_of e) × reason e)
      → Wrong F L T s ⊎ G ⊎ ((e : Refusal) × (s ≡ code e) × (r ≡ report_of e) × other e)
  each_widened D G reason other s r done refused (inl w) = inl (with_form s w)
  each_widened D G reason other s r done refused (inr (inl d)) = inr (inl (done d))
  each_widened D G reason other s r done refused (inr (inr (e, is, rep, w))) = inr (inr (e, is, rep, refused e w))

  widened : (done also : ℕ → CapnReport → Type 0) (reason other : Refusal → Type 0) (s : ℕ) (r : CapnReport)
      → (done s r → also s r) → ((e : Refusal) → reason e → other e)
      → IsTold code report_of (WrongLimits L T) done reason s r → IsTold code report_of (Wrong F L T) also other s r
  widened done also reason other s r d e h = record {
    only = (λ n w. h.only n (without_form n w));
    each = each_widened (done s r) (also s r) reason other s r d e h.each;
  }

  -- ---- answers and refusals

  module _ (bs : List ℕ) (m : List (List ℕ)) (limits : Bounds) (frame : Frames bs m) where
    refused : (e : Refusal) → IsRefusedHeld m limits e → IsRefused forms.Stream bs limits e
    refused e w = refused_as_framed bs m limits frame e w

    served : (n s : ℕ) (r : CapnReport) → IsServedTold (AnswersHeld m limits) n s r
        → IsServedTold (Answers forms.Stream bs limits) n s r
    served n s r ((text, h, room), e) = ((text, answer bs m limits frame text r.paid h, room), e)

    priced : (s : ℕ) (r : CapnReport) → IsPriceHeldTold m limits s r → IsPriceTold forms.Stream bs limits s r
    priced s r (e, (text, h), a) = (e, (text, answer bs m limits frame text r.paid h), a)

    -- The clauses of `capn_canonical_segments`, for a buffer of the length `n`.
    pub served_framed : (n s : ℕ) (r : CapnReport)
        → IsTold code report_of (WrongLimits L T) (IsServedTold (AnswersHeld m limits) n) (IsRefusedHeld m limits) s r
        → IsTold code report_of (Wrong F L T) (IsServedTold (Answers forms.Stream bs limits) n)
        (IsRefused forms.Stream bs limits) s r
    served_framed n s r h =
        widened (IsServedTold (AnswersHeld m limits) n) (IsServedTold (Answers forms.Stream bs limits) n)
        (IsRefusedHeld m limits) (IsRefused forms.Stream bs limits) s r (served n s r) refused h

    -- The clauses of `capn_hash_segments`.
    pub priced_framed : (s : ℕ) (r : CapnReport)
        → IsTold code report_of (WrongLimits L T) (IsPriceHeldTold m limits) (IsRefusedHeld m limits) s r
        → IsTold code report_of (Wrong F L T) (IsPriceTold forms.Stream bs limits)
        (IsRefused forms.Stream bs limits) s r
    priced_framed s r h =
        widened (IsPriceHeldTold m limits) (IsPriceTold forms.Stream bs limits) (IsRefusedHeld m limits)
        (IsRefused forms.Stream bs limits) s r (priced s r) refused h
