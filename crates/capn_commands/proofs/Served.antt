-- Lemmas on messages that a service serves: the list of their texts, and the result of the run. (For `run_each`,
-- `run_each_packed` and `run_one`.)
use Rattle.std.proofs.Common.{◌≡◌, ◌⊎◌, ◌↔◌, inl, inr, ℕ, ◌≤◌, List, [], ◌∷◌, ◌++◌, length, take, Option, Some, None}
use Rattle.std.proofs.Common.{Result, Ok, Err, refl, ap, sym, subst, ◌∙◌, arith, length-append, map}
use Rattle.std.proofs.Math.Seq.{take-length, take-append-le}
use Rattle.std.specs.List.{AllByRecursion}
use Rattle.capn_words.specs.Message.{total}
use Rattle.capn_walk.specs.Limits.{Bounds}
use Rattle.capn_stream.specs.Frames.{Frames, StandsFirst}
use Rattle.capn_stream.specs.declared.fault.FrameFault.{FrameFault}
use Rattle.capn_stream.specs.declared.fault.FrameFault.TheVariants as frame_faults
use Rattle.capn_serve.specs.Fold as folds
use Rattle.capn_serve.specs.Fold.{Fold, fold_of}
use Rattle.capn_serve.specs.declared.position.Position.{Position}
use Rattle.capn_serve.specs.declared.service.Run.{Run}
use Rattle.capn_serve.specs.declared.fault.RunFault.{RunFault}
use Rattle.capn_serve.specs.declared.fault.RunFault.TheVariants as run_faults
use Rattle.capn_commands.specs.MessageText.{IsMessageText, IsNoMessageText}
use Rattle.capn_commands.specs.Streams.{Part, IsPart, AreParts, EndsUnframed, EndsRefused, IsDueEach, end_of, frames_of}
use Rattle.capn_commands.specs.Streams.{texts_of}
use Rattle.capn_commands.specs.CommandRun.{unplaced}
use Rattle.capn_commands.specs.inner.MessageTexts.{first_run, message_texts, refuses, serves}
use Rattle.capn_commands.specs.declared.message_texts.MessageTexts.{MessageTexts}
use Rattle.capn_commands.specs.declared.plan.MessageText.{MessageText}
use Rattle.capn_commands.specs.declared.fault.ToolFault.{ToolFault}
use Rattle.capn_commands.specs.declared.fault.ToolFault.TheVariants as faults

abbrev pub Ending : Type 0
Ending = Result (Unit {0}) RunFault

-- ---- how a run ends, without positions

abbrev pub ending_of : Ending → Result (Unit {0}) ToolFault
ending_of (Ok u) = Ok u
ending_of (Err fault) = Err (unplaced fault)

abbrev pub behind_of : Option RunFault → Option ToolFault
behind_of None = None
behind_of (Some fault) = Some (unplaced fault)

end_same : (at : Position) (e : FrameFault) (behind : Option RunFault)
    → ending_of (folds.end_of at e behind) ≡ end_of e (behind_of behind)
end_same at frame_faults.Empty (Some fault) = refl
end_same at frame_faults.Empty None = refl
end_same at frame_faults.Cut (Some fault) = refl
end_same at frame_faults.Cut None = refl
end_same at frame_faults.Memory behind = refl
end_same at (frame_faults.TooManySegments n) behind = refl
end_same at (frame_faults.TooManyWords n) behind = refl
end_same at frame_faults.Failed behind = refl

io_from : (r : Ending) → ending_of r ≡ Err faults.Io → r ≡ Err run_faults.Io
io_from (Ok u) e = absurd (cc)
io_from (Err run_faults.Memory) e = absurd (cc)
io_from (Err run_faults.Io) e = refl
io_from (Err run_faults.InputTooLong) e = absurd (cc)
io_from (Err (run_faults.Refused at refusal)) e = absurd (cc)

pub memory_from : (r : Ending) → ending_of r ≡ Err faults.Memory → r ≡ Err run_faults.Memory
memory_from (Ok u) e = absurd (cc)
memory_from (Err run_faults.Memory) e = refl
memory_from (Err run_faults.Io) e = absurd (cc)
memory_from (Err run_faults.InputTooLong) e = absurd (cc)
memory_from (Err (run_faults.Refused at refusal)) e = absurd (cc)

pub io_same : (P : Type 0) (r : Ending) → ((r ≡ Err run_faults.Io) ↔ P) → (ending_of r ≡ Err faults.Io) ↔ P
io_same P r io = (λ e. io.0 (io_from r e), λ h. ap ending_of (io.1 h))

-- ---- the messages that were served

abbrev same_part : folds.Part → Part
same_part p = record { frame = p.frame; message = p.message; text = p.text }

frames_same : (ps : List folds.Part) → frames_of (map same_part ps) ≡ folds.frames_of ps
frames_same [] = refl
frames_same (p ∷ ps) = ap (λ (l : List ℕ). p.frame ++ l) (frames_same ps)

texts_same : (ps : List folds.Part) → texts_of (map same_part ps) ≡ folds.texts_of ps
texts_same [] = refl
texts_same (p ∷ ps) = ap (λ (l : List ℕ). p.text ++ l) (texts_same ps)

stands : (rest frame more : List ℕ) (message : List (List ℕ)) (most : ℕ) → rest ≡ frame ++ more → Frames frame message
    → total message ≤ most → StandsFirst rest most message (length frame)
stands rest frame more message most is framed room =
    let front : take (length frame) (frame ++ more) ≡ frame =
    take-append-le (length frame) frame more (omega arith) ∙ take-length frame in
    subst (λ (l : List ℕ). StandsFirst l most message (length frame)) (sym is) (record {
      inside = omega (arith, length-append frame more);
      frame = subst (λ (l : List ℕ). Frames l message) (sym front) framed;
      room = room;
    })

module _ (piece : MessageText) (limits : Bounds) where
  -- The fold of the service over messages of at most `limits.message_words` words.
  abbrev pub texts : Fold (Run MessageTexts)
  texts = fold_of serves refuses limits.message_words

  -- `x` is a run of the service that writes the text of the kind `piece` for each message, within `limits`.
  abbrev pub IsOf : Run MessageTexts → Type 0
  IsOf x = x.service ≡ message_texts piece limits

  pub is_first : (x : Run MessageTexts) → x ≡ first_run piece limits → IsOf x
  is_first x new = ap (λ (y : Run MessageTexts). y.service) new

  each_part : (ps : List folds.Part) (x y : Run MessageTexts) → IsOf x → folds.AreServed texts x ps y
      → AllByRecursion (IsPart piece limits) (map same_part ps) × IsOf y
  each_part [] x y of e = (tt, ap (λ (z : Run MessageTexts). z.service) (sym e) ∙ of)
  each_part (p ∷ ps) x y of (mid, is, step, more) =
      let here : IsMessageText piece p.message limits p.text =
      subst (λ (s : MessageTexts). IsMessageText s.piece p.message s.limits p.text) of step.0.0 in
      let rest = each_part ps mid y (step.0.1 ∙ of) more in
      ((record { frame = is.frame; room = is.room; text = here }, rest.0), rest.1)

  parts_of : (x y : Run MessageTexts) (bytes rest : List ℕ) (ps : List folds.Part) → IsOf x
      → folds.AreParts texts x bytes ps rest y → AreParts piece limits bytes (map same_part ps) rest
  parts_of x y bytes rest ps of are = record {
    each = (each_part ps x y of are.each).0;
    is = are.is ∙ ap (λ (l : List ℕ). l ++ rest) (sym (frames_same ps));
  }

  pub row : (x y : Run MessageTexts) (bytes rest : List ℕ) (ps : List folds.Part) → IsOf x
      → folds.AreParts texts x bytes ps rest y
      → (parts : List Part) × AreParts piece limits bytes parts rest × (texts_of parts ≡ folds.texts_of ps)
  row x y bytes rest ps of are = (map same_part ps, parts_of x y bytes rest ps of are, texts_same ps)

  ends_same : (x : Run MessageTexts) (rest : List ℕ) (behind : Option RunFault) (r : Ending) → IsOf x
      → folds.EndsUnframed texts x rest behind r ⊎ folds.EndsRefused texts x rest r
      → EndsUnframed limits rest (behind_of behind) (ending_of r) ⊎ EndsRefused piece limits rest (ending_of r)
  ends_same x rest behind r of (inl (e, n, why, is)) =
      inl (e, n, why, ap ending_of is ∙ end_same x.at e behind)
  ends_same x rest behind r of (inr (frame, more, message, refusal, is, framed, room, why, e)) = inr (
    message,
    length frame,
    faults.Refused refusal,
    stands rest frame more message limits.message_words is framed room,
    subst (λ (s : MessageTexts). IsNoMessageText s.piece message s.limits (faults.Refused refusal)) of why,
    ap ending_of e,
  )

  pub due : (x y : Run MessageTexts) (bytes text : List ℕ) (behind : Option RunFault) (r : Ending) → IsOf x
      → folds.IsFolded texts x bytes behind text r y
      → IsDueEach piece limits bytes (behind_of behind) text (ending_of r)
  due x y bytes text behind r of h = record {
    parts = map same_part h.parts;
    rest = h.rest;
    are = parts_of x y bytes h.rest h.parts of h.are;
    joined = h.joined ∙ sym (texts_same h.parts);
    ends = ends_same y h.rest behind r (each_part h.parts x y of h.are.each).1 h.ends;
  }
