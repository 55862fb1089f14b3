-- Lemmas for `read_message`: the result in terms of all input that the reader had before the call.
use Rattle.std.proofs.Common.{◌≡◌, inl, inr, ℕ, ◌<◌, ◌≤◌, List, [], ◌++◌, length, take, Bool, IsErrOf}
use Rattle.std.proofs.Common.{Option, Some, None, IfSome, Result, Ok, Err, refl, ap, sym, subst, ◌∙◌, arith, append-nil}
use Rattle.std.proofs.Common.{length-append}
use Rattle.std.proofs.lemmas.List.{take_at}
use Rattle.capn_words.specs.Message.{total}
use Rattle.capn_stream.specs.Frames.{Frames, StandsFirst}
use Rattle.capn_stream.specs.FrameRefusal.{IsFrameRefused}
use Rattle.capn_stream.specs.NextMessage.{OnlyFirst, ReadGives, ReadsFirst, StopsInside}
use Rattle.capn_stream.specs.declared.fault.FrameFault.TheVariants as frames
use Rattle.capn_stream.specs.declared.fault.ReadFault.{ReadFault}
use Rattle.capn_stream.specs.declared.fault.ReadFault.TheVariants as faults
use Rattle.capn_stream.proofs.shared.FrameLaws.{one_frame, refused_whole, whole_of}
use Rattle.capn_stream.proofs.shared.Longer.{IsStop-append}

stands : (bytes rest input : List ℕ) (most : ℕ) (message : List (List ℕ)) → input ≡ bytes ++ rest → Frames bytes message
    → total message ≤ most → StandsFirst input most message (length bytes)
stands bytes rest input most message is frame room = record {
  inside = omega (arith, ap length is, length-append bytes rest);
  frame = subst (λ (xs : List ℕ). Frames xs message)
      (sym (ap (λ (xs : List ℕ). take (length bytes) xs) is ∙ take_at bytes rest (length bytes) refl)) frame;
  room = room;
}

reads : (input rest : List ℕ) (most : ℕ) (failed : Bool) (r : Result (Option (List (List ℕ))) ReadFault)
    → ReadGives (Some input) (Some rest) failed most r → ReadsFirst most r input
reads input rest most failed (Ok (Some message)) (bytes, g) =
    (length bytes, stands bytes rest input most message g.read g.answer.0 g.answer.1)
reads input rest most failed (Ok None) (bytes, g) =
    let none = g.answer.0 in
    g.read ∙ ap (λ (xs : List ℕ). xs ++ rest) none ∙ g.answer.1
reads input rest most failed (Err faults.Memory) g = tt
reads input rest most failed (Err faults.Io) g = tt
reads input rest most failed (Err (faults.Frame frames.Memory)) (bytes, g) = absurd g.answer.0
reads input rest most failed (Err (faults.Frame frames.Empty)) (bytes, g) = absurd g.answer.0
reads input rest most failed (Err (faults.Frame (frames.TooManySegments n))) (bytes, g) = (
  subst (λ (xs : List ℕ). IsFrameRefused xs most (frames.TooManySegments n)) (sym g.read)
      (IsStop-append bytes rest most (frames.TooManySegments n) g.answer.0),
  λ h. cc,
  λ h. cc,
)
reads input rest most failed (Err (faults.Frame (frames.TooManyWords n))) (bytes, g) = (
  subst (λ (xs : List ℕ). IsFrameRefused xs most (frames.TooManyWords n)) (sym g.read)
      (IsStop-append bytes rest most (frames.TooManyWords n) g.answer.0),
  λ h. cc,
  λ h. cc,
)
reads input rest most failed (Err (faults.Frame frames.Cut)) (bytes, g) =
    let whole : input ≡ bytes = g.read ∙ ap (λ (xs : List ℕ). bytes ++ xs) g.answer.0.1 ∙ append-nil bytes in
    (subst (λ (xs : List ℕ). IsFrameRefused xs most frames.Cut) (sym whole) g.answer.0.0, λ h. cc, λ h. cc)
reads input rest most failed (Err (faults.Frame frames.Failed)) (bytes, g) = absurd g.answer.0

nothing_first : (most : ℕ) (message : List (List ℕ)) (taken : ℕ) (input : List ℕ) → input ≡ []
    → StandsFirst input most message taken → ⊥
nothing_first most message taken input none s = let w = whole_of input most message taken s in
    absurd (omega (arith, w.0.0.0, ap length none))

only : (input : List ℕ) (most : ℕ) (r : Result (Option (List (List ℕ))) ReadFault) → ReadsFirst most r input
    → OnlyFirst most r input
only input most (Ok (Some m)) (n, s) message taken t =
    inl (ap (λ (x : List (List ℕ)). Ok (Some x)) (one_frame input most most m message n taken s t).0)
only input most (Ok None) none message taken t = absurd (nothing_first most message taken input none t)
only input most (Err faults.Memory) h message taken t = inr (inl refl)
only input most (Err faults.Io) h message taken t = inr (inr refl)
only input most (Err (faults.Frame e)) (refused, other, some) message taken t =
    absurd (other (refused_whole input most e (whole_of input most message taken t) refused))

pub read_gives : (old new : Option (List ℕ)) (failed : Bool) (most : ℕ) (r : Result (Option (List (List ℕ))) ReadFault)
    → StopsInside old new failed most r → ReadGives old new failed most r
read_gives old new failed most r (bytes, received, place) = (bytes, received)

-- the result is `Memory` only if the input is not at its end
pub wants_first : (old new : Option (List ℕ)) (failed : Bool) (most : ℕ)
    (r : Result (Option (List (List ℕ))) ReadFault)
    → StopsInside old new failed most r → IfSome old (λ input. IsErrOf r faults.Memory → 0 < length input)
wants_first None new failed most r g = tt
wants_first (Some input) None failed most r (bytes, received, place) = absurd received.read
wants_first (Some input) (Some rest) failed most (Ok m) g = λ h. cc
wants_first (Some input) (Some rest) failed most (Err faults.Memory) (bytes, received, place) =
    λ h. omega (arith, place.0, ap length received.read, length-append bytes rest)
wants_first (Some input) (Some rest) failed most (Err faults.Io) g = λ h. cc
wants_first (Some input) (Some rest) failed most (Err (faults.Frame e)) g = λ h. cc

pub reads_first : (old new : Option (List ℕ)) (most : ℕ) (failed : Bool) (r : Result (Option (List (List ℕ))) ReadFault)
    → ReadGives old new failed most r → IfSome old (ReadsFirst most r)
reads_first None new most failed r g = tt
reads_first (Some input) None most failed r g = absurd g.1.read
reads_first (Some input) (Some rest) most failed r g = reads input rest most failed r g

pub only_first : (old new : Option (List ℕ)) (most : ℕ) (failed : Bool) (r : Result (Option (List (List ℕ))) ReadFault)
    → ReadGives old new failed most r → IfSome old (OnlyFirst most r)
only_first None new most failed r g = tt
only_first (Some input) None most failed r g = absurd g.1.read
only_first (Some input) (Some rest) most failed r g = only input most r (reads input rest most failed r g)
