-- Lemmas for `fill`: one more part of a frame is received.
use Rattle.std.proofs.Common.{◌≡◌, inl, inr, ℕ, ◌+◌, ◌-◌, ◌<◌, ◌≤◌, List, ◌++◌, length, take, drop}
use Rattle.std.proofs.Common.{refl, ap, sym, subst, ◌∙◌, arith, append_assoc, length-drop}
use Rattle.std.proofs.Math.Seq.{take-add}
use Rattle.std.proofs.lemmas.List.{take_rest, take-append-drop}
use Rattle.capn_words.specs.Message.{most_segments}
use Rattle.capn_stream.specs.FrameRefusal.{HasCount, announced_segments, head_length}
use Rattle.capn_stream.specs.StreamPieces.{KeepsHead}
use Rattle.capn_stream.specs.inner.Stages.{Extends, Fills, IsDone, IsStage, IsHeadRefused, Tabled, need}
use Rattle.capn_stream.specs.declared.fault.FrameFault.{FrameFault}
use Rattle.capn_stream.specs.declared.fault.FrameFault.TheVariants.{Memory, Empty, TooManySegments, TooManyWords, Cut}
use Rattle.capn_stream.specs.declared.fault.FrameFault.TheVariants.{Failed}
use Rattle.capn_stream.specs.declared.stage.Stage.{Stage}
use Rattle.capn_stream.specs.declared.stage.Stage.TheVariants as stages
use Rattle.capn_stream.proofs.shared.Longer.{IsStage-extends, IsStop-append}

-- the first `at` bytes of `piece` were appended to `old`, which gives `new`, and `stage` is the stage of `new`
pub record Filled (stage : Stage) (old piece : List ℕ) (most at : ℕ) (new ends : List ℕ) : Type 0 where
  pub inside : at ≤ length piece
  pub text : new ≡ old ++ take at piece
  pub is : IsStage stage new most ends

pub stop_count : (bs : List ℕ) (most : ℕ) (e : FrameFault) → length bs ≡ 4
    → (e ≡ TooManySegments (announced_segments bs)) × (most_segments < announced_segments bs) → IsHeadRefused bs most e
stop_count bs most e here h = rw h.0 (omega arith, refl, h.1)

-- after the count is read, `Filled` holds with the stage `Table`
pub is_table : (stage : Stage) (old piece : List ℕ) (most at segments : ℕ) (new ends : List ℕ)
    → Filled stage old piece most at new ends → HasCount new × (segments ≡ announced_segments new) → length new ≡ 4
    → Filled (stages.Table segments) old piece most at new ends
is_table stage old piece most at segments new ends f counted here = record {
  inside = f.inside;
  text = f.text;
  is = record {
    below = f.is.below;
    knows = counted;
    within = omega (arith, here);
  };
}

-- after the table is read, `Filled` holds with the stage `Contents`
pub is_contents : (segments : ℕ) (old piece : List ℕ) (most at start end : ℕ) (new ends cuts : List ℕ)
    → Filled (stages.Table segments) old piece most at new ends → Tabled new most start end cuts
    → Filled (stages.Contents start end) old piece most at new cuts
is_contents segments old piece most at start end new ends cuts f t = record {
  inside = f.inside;
  text = f.text;
  is = record {
    below = f.is.below;
    knows = (t.head, t.room, t.begins, t.stops, t.cuts);
    within = omega (arith, f.is.within, t.stops, ap head_length f.is.knows.1);
  };
}

module _ (stage : Stage) (old piece : List ℕ) (most at n end : ℕ) (mid new ends : List ℕ) (end_is : end ≡ need stage)
    (inside : at ≤ length piece) (text : mid ≡ old ++ take at piece) (is : IsStage stage mid most ends)
    (more : Extends mid (take (length piece - at) (drop at piece)) end n new) where
  pub filled : Filled stage old piece most (at + n) new ends
  filled =
      let part = rw (take_rest piece at, end_is) at more in
      record {
        inside = omega (arith, part.inside, length-drop at piece);
        text =
            part.text
            ∙ ap (λ (xs : List ℕ). xs ++ take n (drop at piece)) text
            ∙ append_assoc old (take at piece) (take n (drop at piece))
            ∙ ap (λ (xs : List ℕ). old ++ xs) (sym (take-add at n piece));
        is = IsStage-extends stage mid (drop at piece) most n new ends is part;
      }

  pub filled_all : old ++ piece ≡ new ++ drop (at + n) piece
  filled_all =
      ap (λ (xs : List ℕ). old ++ xs) (sym (take-append-drop (at + n) piece))
      ∙ sym (append_assoc old (take (at + n) piece) (drop (at + n) piece))
      ∙ ap (λ (xs : List ℕ). xs ++ drop (at + n) piece) (sym filled.text)

  -- a fault of the bytes `new` is a fault of the bytes `old ++ piece`
  pub filled_stop : (e : FrameFault) → IsHeadRefused new most e → IsHeadRefused (old ++ piece) most e
  filled_stop e h =
      subst (λ (bs : List ℕ). IsHeadRefused bs most e) (sym filled_all)
      (IsStop-append new (drop (at + n) piece) most e h)

  -- if the bytes `new` have the fault `e`, `KeepsHead` holds of `new`
  pub filled_kept : (e : FrameFault) → IsHeadRefused new most e → KeepsHead old piece most new e
  filled_kept Memory h = tt
  filled_kept Empty h = tt
  filled_kept (TooManySegments count) h = tt
  filled_kept (TooManyWords words) h = ((at + n, filled.text), h)
  filled_kept Cut h = tt
  filled_kept Failed h = tt

  -- Case: if `new` has fewer than `end` bytes, all of `piece` was appended, and `Fills` holds.
  pub filled_short : length new < end → Fills old piece most (at + n) new stage ends
  filled_short short =
      let part = rw (take_rest piece at, end_is) at more in
      let f = filled in
      record {
        inside = f.inside;
        text = f.text;
        is = f.is;
        rests = inl (omega (arith, short, end_is));
        stops = inl (omega (arith, part.stops (omega (arith, short, end_is)), length-drop at piece, inside));
      }

  -- Case: if the frame is complete, `Fills` holds.
  pub filled_done : IsDone stage new → Fills old piece most (at + n) new stage ends
  filled_done done =
      let f = filled in
      record {
        inside = f.inside;
        text = f.text;
        is = f.is;
        rests = inr done;
        stops = inr done;
      }
