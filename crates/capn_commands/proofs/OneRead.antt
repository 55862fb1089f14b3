-- Lemmas for `read_frame`, `serve_frame` and `serve_message`: the frame of the one message of an input, and the result
-- of the service for that message.
use Rattle.std.proofs.Common.{◌≡◌, ◌⊎◌, ◌||◌, inl, inr, ℕ, ◌+◌, ◌*◌, ◌≤◌, List, [], ◌++◌, length, take, Bool, true}
use Rattle.std.proofs.Common.{false, Option, Result, Ok, Err, Vec, ap, sym, subst, ◌∙◌, arith, length-take}
use Rattle.std.proofs.Math.Seq.{take-append-add, take-append_seam, take-length, take-nil, take_all}
use Rattle.std.proofs.lemmas.Bool.{cases_lt}
use Rattle.std.proofs.lemmas.List.{take-take}
use Rattle.std.proofs.KnownBytes.{Appends-nil, Appends-trans}
use Rattle.std.specs.Io.KnownBytes.{Appends}
use Rattle.capn_words.specs.Watched.{HasBegun}
use Rattle.capn_stream.specs.Frames.{Frames, StandsFirst, most_table_words}
use Rattle.capn_stream.specs.FrameRefusal.{IsFrameRefused}
use Rattle.capn_stream.specs.declared.fault.FrameFault.{FrameFault}
use Rattle.capn_canon.specs.Reads.{IsFramed}
use Rattle.capn_canon.specs.RefusalOf.{IsOfFrame}
use Rattle.capn_canon.specs.declared.refusal.Refusal.{Refusal}
use Rattle.capn_canon.specs.declared.refusal.Refusal.TheVariants as refusals
use Rattle.capn_serve.specs.Outgoing.{Adds, outgoing}
use Rattle.capn_serve.specs.Service.{DoesService}
use Rattle.capn_serve.specs.StreamRun.{start}
use Rattle.capn_serve.specs.WholeInput.{HasGivenAll, IsBeginning}
use Rattle.capn_serve.specs.WholeInput as served
use Rattle.capn_serve.specs.declared.fault.RunFault.{RunFault}
use Rattle.capn_serve.specs.declared.fault.ServeFault.{ServeFault}
use Rattle.capn_serve.specs.declared.fault.ServeFault.TheVariants as serve_faults
use Rattle.capn_serve.specs.declared.pick.StreamForm.{StreamForm}
use Rattle.capn_serve.specs.declared.pick.StreamForm.TheVariants as streams
use Rattle.capn_serve.specs.declared.position.Position.{Position}
use Rattle.capn_serve.specs.declared.whole_input.WholeInput.{WholeInput}
use Rattle.capn_commands.specs.CommandRun.{unplaced}
use Rattle.capn_commands.specs.OneMessage.{Writes}
use Rattle.capn_commands.specs.WholeInput.{Gives, IsFaultOf}
use Rattle.capn_commands.specs.inner.OneServing.{HoldsFrame, RefusesFrame, ServesWhole}
use Rattle.capn_commands.specs.inner.ReadInput.{TakesAll}
use Rattle.capn_commands.specs.declared.plan.Whole.TheVariants as wholes
use Rattle.capn_commands.specs.declared.fault.ToolFault.{ToolFault}
use Rattle.capn_commands.specs.declared.fault.ToolFault.TheVariants as faults
use Rattle.capn_commands.proofs.Makings.{untaken}

abbrev Ending : Type 0
Ending = Result (Unit {0}) ToolFault

abbrev stopped : ToolFault → Ending
stopped fault = Err fault

abbrev ended : ServeFault → Result (Unit {0}) ServeFault
ended fault = Err fault

-- ---- the bytes that are held of an input

module _ {A : Type 0} (a b : Option (List ℕ)) (f : Bool) (most : ℕ) where
  pub first_held : (n : ℕ) (input : WholeInput A) → n ≡ 8 * (most + most_table_words) + 1
      → served.TakesAll {T = WholeInput A} (IsBeginning n) a b f (Ok input)
      → TakesAll {T = Vec ℕ A} (HoldsFrame streams.Stream most) a b f (Ok input.bytes)
  first_held n input same (bytes, all, is) =
      (bytes, all, subst (λ (k : ℕ). take k bytes ≡ input.bytes.items) same is.0)

  pub words_held : (words : ℕ) (r : Result (Vec ℕ A) ToolFault) → words ≡ most + most_table_words
      → TakesAll {T = Vec ℕ A} (Gives (wholes.Unpacked words)) a b f r
      → TakesAll {T = Vec ℕ A} (HoldsFrame streams.Packed most) a b f r
  words_held words (Ok text) same h =
      subst (λ (k : ℕ). TakesAll {T = Vec ℕ A} (Gives (wholes.Unpacked k)) a b f (Ok text)) same h
  words_held words (Err fault) same h =
      subst (λ (k : ℕ). TakesAll {T = Vec ℕ A} (Gives (wholes.Unpacked k)) a b f (Err fault)) same h

pub unheld : (A : Type 0) (a b : Option (List ℕ)) (f : Bool) (most : ℕ) (form : StreamForm) (fault : RunFault)
    → served.IsUntaken a b f fault ⊎ ((bytes : List ℕ) × HasGivenAll a b f bytes × ⊥)
    → TakesAll {T = Vec ℕ A} (HoldsFrame form most) a b f (Err (unplaced fault))
unheld A a b f most form fault (inl h) = inl (untaken a b f fault h)
unheld A a b f most form fault (inr (bytes, all, none)) = absurd none

-- ---- the message of a frame

module _ (frame : List ℕ) (most : ℕ) where
  -- If all bytes of `frame` belong to its first message, `frame` is exactly the frame of that message.
  pub framed_whole : (m : List (List ℕ)) (taken : ℕ) → StandsFirst frame most m taken → length frame ≤ taken
      → IsFramed frame most m
  framed_whole m taken h long =
      let e : taken ≡ length frame = let inside = h.inside in omega arith in
      let all : take taken frame ≡ frame = ap (λ (n : ℕ). take n frame) e ∙ take-length frame in
      record { frame = subst (λ (l : List ℕ). Frames l m) all h.frame; room = h.room }

  -- Case: `frame` does not begin with a complete frame.
  pub frame_refused : (writes : List ℕ → Type 0) (refuses : List ℕ → List (List ℕ) → Refusal → Type 0)
      (c : Option (List ℕ)) (failed : Bool) (fault : FrameFault) (r : Refusal) (e : ToolFault) → failed ≡ false
      → IsFrameRefused frame most fault → IsOfFrame fault r → IsFaultOf r e
      → ServesWhole writes (RefusesFrame refuses most frame) c c failed (Err e)
  frame_refused writes refuses c failed fault r e fine why (inl (memory, of)) (inl (is, also)) =
      subst (λ (x : ToolFault). ServesWhole writes (RefusesFrame refuses most frame) c c failed (stopped x)) (sym also)
      (inl (Appends-nil c), fine)
  frame_refused writes refuses c failed fault r e fine why (inl (memory, of)) (inr (other, also)) = absurd (other of)
  frame_refused writes refuses c failed fault r e fine why (inr (n, of)) (inl (is, also)) =
      absurd (let bad : refusals.Frame fault ≡ refusals.Memory = sym of ∙ is in cc)
  frame_refused writes refuses c failed fault r e fine why (inr (n, of)) (inr (other, also)) =
      subst (λ (x : ToolFault). ServesWhole writes (RefusesFrame refuses most frame) c c failed (stopped x))
      (sym (also ∙ ap (λ (q : Refusal). faults.Refused q) of)) (inl (n, why), Appends-nil c, fine)

-- ---- a message that a service served

take_less : (m n : ℕ) (l : List ℕ) → (k : ℕ) × (take m (take n l) ≡ take k l)
take_less m n l = elim (cases_lt n m) [
  | inl less ↦ (n, take_all m (take n l) (omega (arith, less, length-take n l)))
  | inr more ↦ (m, take-take m n l more)
]

written_front : (w kept text : List ℕ) → w ++ kept ≡ text → w ≡ take (length w) text
written_front w kept text is = sym (take-append_seam w kept) ∙ ap (λ (l : List ℕ). take (length w) l) is

module _ {S : Type 0} (serves : S → Position → List ℕ → List (List ℕ) → List ℕ → S → Type 0)
    (refuses : S → Position → List ℕ → List (List ℕ) → Refusal → Type 0) (s t : S) (frame : List ℕ)
    (message : List (List ℕ)) (c m : Option (List ℕ)) (none kept : List ℕ) (fine : Bool) (empty : none ≡ []) where
  -- The service was called in the state `s` and ended with `r` in the state `t`.
  abbrev Does : Result (Unit {0}) ServeFault → Type 0
  Does r = DoesService serves refuses s start frame message (outgoing c none) (outgoing m kept) fine r t

  -- `ServesWhole` holds for the texts and the refusals of the service, and for the result `e`.
  abbrev Serves : Option (List ℕ) → Bool → Ending → Type 0
  Serves d failed e =
      ServesWhole (Writes serves s frame message) (refuses s start frame message) c d failed e

  joined : (w text : List ℕ) → w ++ kept ≡ none ++ text → w ++ kept ≡ text
  joined w text is = is ∙ ap (λ (l : List ℕ). l ++ text) empty

  -- Case: the message was served, and the writer failed while the bytes `kept` were written.
  pub message_broken : (d : Option (List ℕ)) (piece : List ℕ) (failed : Bool) → Does (Ok tt) → piece ≡ kept
      → HasBegun m d piece → failed ≡ (fine || true) → Serves d failed (Err faults.Io)
  message_broken d piece failed ((text, is, (w, wrote, e), good), short) same (count, begun) broke =
      let front : w ++ take count kept ≡ take (length w + count) text =
      sym (take-append-add w kept count) ∙ ap (λ (l : List ℕ). take (length w + count) l) (joined w text e) in
      let rest = subst (λ (l : List ℕ). Appends m d (take count l)) same begun in (
        (
          text,
          length w + count,
          (t, is),
          subst (Appends c d) front (Appends-trans c m d w (take count kept) wrote rest),
        ),
        broke ∙ ap (λ (x : Bool). x || true) good,
      )

  unwritten : Adds (outgoing c none) (outgoing m kept) [] → Appends c m []
  unwritten (w, wrote, e) =
      subst (Appends c m) (written_front w kept [] (joined w [] e) ∙ take-nil (length w)) wrote

  of_memory : Does (Err serve_faults.Memory) → Serves m fine (Err faults.Memory)
  of_memory (inl adds, good) = (inl (unwritten adds.0), good)
  of_memory (inr (text, y, count, is, (w, wrote, e)), good) =
      let less = take_less (length w) count text in
      let front : w ≡ take less.0 text = written_front w kept (take count text) (joined w (take count text) e)
      ∙ less.1 in
      (inr (text, less.0, (y, is), subst (Appends c m) front wrote), good)

  pub message_memory : (fault : ServeFault) → fault ≡ serve_faults.Memory → Does (ended fault)
      → Serves m fine (Err faults.Memory)
  message_memory fault is h = of_memory (subst (λ (x : ServeFault). Does (ended x)) is h)
