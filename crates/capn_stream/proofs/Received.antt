-- Lemmas for `receive` and `take_in`: reading a message from a reader.
use Rattle.std.proofs.Common.{◌≡◌, inl, inr, ℕ, ◌+◌, ◌<◌, ◌≤◌, List, [], ◌++◌, length, take, Bool, true, false}
use Rattle.std.proofs.Common.{Option, Some, None, Result, Ok, Err, ap, sym, subst, ◌∙◌, arith, append-nil}
use Rattle.std.proofs.Common.{length-append, length-take-le}
use Rattle.std.specs.Io.KnownBytes.{Consumes, IsAtEnd, Keeps}
use Rattle.std.proofs.KnownBytes.{Consumes-trans}
use Rattle.std.proofs.lemmas.List.{take-append-le}
use Rattle.capn_stream.specs.Frames.{Frames}
use Rattle.capn_stream.specs.StreamPieces.{Feeds, Framing, IsFrame, IsUnfinished, TakeGives}
use Rattle.capn_stream.specs.FrameRefusal.{EndsWithin, IsFrameRefused}
use Rattle.capn_stream.specs.NextMessage.{EndGives, StopsInside, TakesIn, most_bytes}
use Rattle.capn_stream.specs.declared.fault.FrameFault.TheVariants as frames
use Rattle.capn_stream.specs.declared.fault.ReadFault.{ReadFault}
use Rattle.capn_stream.specs.declared.fault.ReadFault.TheVariants as faults
use Rattle.capn_stream.proofs.shared.Wanting.{many_segments_end, many_words_end, taken_whole, unfinished_within}

-- if no frame can end before the end of `piece`, the framer receives all of `piece`, and `TakesIn` holds of the result
pub takes_in : (before : Framing) (piece : List ℕ) (n : ℕ) (mid : Framing) (r : Option (List (List ℕ)))
    (after : Framing) → Feeds before piece n mid
    → ((more : List ℕ) → IsFrame (before.rest ++ more) before.most → length piece ≤ length more)
    → TakeGives mid r after → TakesIn before piece (Ok r) after
takes_in before piece n mid (Some message) after fed needs took =
    let rest = taken_whole before piece n mid fed needs in
    (subst (λ (bs : List ℕ). Frames bs message) rest took.0, omega (arith, took.1, fed.same))
takes_in before piece n mid None after fed needs (inr part, same) =
    let rest = taken_whole before piece n mid fed needs in
    rw same (rest, fed.same, fed.is_good, subst (λ (m : ℕ). IsUnfinished mid.rest m) fed.same part)
takes_in before piece n mid None after fed needs (inl failed, same) = let e : true ≡ false = sym failed ∙ fed.is_good in
    cc

Consumes-kept : (a b c : Option (List ℕ)) (bs : List ℕ) → Consumes a b bs → Keeps b c → Consumes a c bs
Consumes-kept None b c bs read kept = tt
Consumes-kept (Some xs) None c bs read kept = absurd read
Consumes-kept (Some xs) (Some ys) None bs read kept = absurd kept
Consumes-kept (Some xs) (Some ys) (Some zs) bs read kept = read ∙ ap (λ (ts : List ℕ). bs ++ ts) (sym kept)

-- Case: if the input has ended, `StopsInside` holds of the result.
pub received_end : (a b : Option (List ℕ)) (rest : List ℕ) (most : ℕ) (failed : Bool)
    (r : Result (Option (List (List ℕ))) ReadFault) → EndGives rest most r → Consumes a b rest → IsAtEnd b
    → length rest ≤ most_bytes most → failed ≡ false
    → StopsInside a b failed most r
received_end a b rest most failed (Ok (Some message)) ends read end bound fine = absurd ends
received_end a b rest most failed (Ok None) ends read end bound fine =
    (rest, record { read = read; bounded = bound; answer = (ends, end, fine) }, tt)
received_end a b rest most failed (Err faults.Memory) ends read end bound fine = absurd ends
received_end a b rest most failed (Err faults.Io) ends read end bound fine = absurd ends
received_end a b rest most failed (Err (faults.Frame frames.Memory)) ends read end bound fine = absurd ends
received_end a b rest most failed (Err (faults.Frame frames.Empty)) ends read end bound fine = absurd ends
received_end a b rest most failed (Err (faults.Frame (frames.TooManySegments n))) ends read end bound fine = absurd ends
received_end a b rest most failed (Err (faults.Frame (frames.TooManyWords n))) ends read end bound fine = absurd ends
received_end a b rest most failed (Err (faults.Frame frames.Cut)) ends read end bound fine =
    (rest, record { read = read; bounded = bound; answer = ((ends, end), fine) }, end)
received_end a b rest most failed (Err (faults.Frame frames.Failed)) ends read end bound fine = absurd ends

-- Case: if the reader has failed, `StopsInside` holds of `Io`.
pub received_io : (a b c : Option (List ℕ)) (rest : List ℕ) (most : ℕ) (failed : Bool) → Consumes a b rest → Keeps b c
    → length rest ≤ most_bytes most → IsUnfinished rest most → failed ≡ true
    → StopsInside a c failed most (Err faults.Io)
received_io a b c rest most failed read kept bound part broken = (
  rest,
  record { read = Consumes-kept a b c rest read kept; bounded = bound; answer = (part, broken) },
  unfinished_within rest most part,
)

-- each lemma of this block is about the state after `count` bytes were read into `buf` and fed to the framer
module _ (a b c : Option (List ℕ)) (before : Framing) (buf : List ℕ) (count : ℕ) (after : Framing) (most : ℕ)
    (failed : Bool) (same : before.most ≡ most) (read : Consumes a b before.rest) (more : Consumes b c (take count buf))
    (within : count ≤ length buf)
    (bound : length before.rest + count ≤ most_bytes most) (fine : failed ≡ false) (came : 0 < count)
    (inside : EndsWithin (before.rest ++ take count buf) most) where
  both : Consumes a c (before.rest ++ take count buf)
  both = Consumes-trans a b c before.rest (take count buf) read more

  short : length (before.rest ++ take count buf) ≤ most_bytes most
  short = omega (arith, bound, length-append before.rest (take count buf), length-take-le count buf within)

  pub received_some : (message : List (List ℕ)) → TakesIn before (take count buf) (Ok (Some message)) after
      → StopsInside a c failed most (Ok (Some message))
  received_some message took = (
    before.rest ++ take count buf,
    record { read = both; bounded = short; answer = (took.0, omega (arith, took.1, same), fine) },
    tt,
  )

  some : 0 < length (before.rest ++ take count buf)
  some = omega (arith, length-append before.rest (take count buf), length-take-le count buf within, came)

  pub received_err : (e : ReadFault) → TakesIn before (take count buf) (Err e) after
      → StopsInside a c failed most (Err e)
  received_err faults.Memory took =
      (before.rest ++ take count buf, record { read = both; bounded = short; answer = fine }, (some, inside))
  received_err faults.Io took = absurd took
  received_err (faults.Frame frames.Memory) took = absurd took
  received_err (faults.Frame frames.Empty) took = absurd took
  received_err (faults.Frame (frames.TooManySegments n)) took = (
    before.rest ++ take count buf,
    record { read = both; bounded = short; answer = (took, fine) },
    many_segments_end (before.rest ++ take count buf) most n inside took,
  )
  received_err (faults.Frame (frames.TooManyWords n)) took =
      let refused : IsFrameRefused (before.rest ++ take count buf) most (frames.TooManyWords n) =
      (took.0, took.1, omega (arith, took.2, same)) in (
        before.rest ++ take count buf,
        record { read = both; bounded = short; answer = (refused, fine) },
        many_words_end (before.rest ++ take count buf) most n inside refused,
      )
  received_err (faults.Frame frames.Cut) took = absurd took
  received_err (faults.Frame frames.Failed) took = absurd took

-- a reader that gave no byte for a `buf` that is not empty is at its end
pub received_none : (a b c : Option (List ℕ)) (rest buf : List ℕ) (n : ℕ) → n ≡ 0 → Consumes a b rest
    → Consumes b c (take n buf) × (n ≡ 0 → 0 < length buf → IsAtEnd c) → 0 < length buf → Consumes a c rest × IsAtEnd c
received_none a b c rest buf n zero read more some =
    let none : Consumes b c [] = subst (λ (k : ℕ). Consumes b c (take k buf)) zero more.0 in
    (subst (Consumes a c) (append-nil rest) (Consumes-trans a b c rest [] read none), more.1 zero some)

pub received_more : (a b c : Option (List ℕ)) (before : Framing) (buf : List ℕ) (count : ℕ) (after : Framing)
    → Consumes a b before.rest → Consumes b c (take count buf) → after.rest ≡ before.rest ++ take count buf
    → Consumes a c after.rest
received_more a b c before buf count after read more e =
    subst (Consumes a c) (sym e) (Consumes-trans a b c before.rest (take count buf) read more)

pub took_front : (before : Framing) (buf tail : List ℕ) (count : ℕ) (r : Result (Option (List (List ℕ))) ReadFault)
    (after : Framing) → count ≤ length buf → TakesIn before (take count (buf ++ tail)) r after
    → TakesIn before (take count buf) r after
took_front before buf tail count r after within took =
    subst (λ (xs : List ℕ). TakesIn before xs r after) (take-append-le count buf tail within) took

pub took_none : (before : Framing) (piece : List ℕ) (r : Option (List (List ℕ))) (after : Framing) → r ≡ None
    → TakesIn before piece (Ok r) after → TakesIn before piece (Ok None) after
took_none before piece r after e took = subst (λ (o : Option (List (List ℕ))). TakesIn before piece (Ok o) after) e took

pub took_some : (before : Framing) (piece : List ℕ) (r : Option (List (List ℕ))) (message : List (List ℕ))
    (after : Framing) → r ≡ Some message → TakesIn before piece (Ok r) after
    → TakesIn before piece (Ok (Some message)) after
took_some before piece r message after e took =
    subst (λ (o : Option (List (List ℕ))). TakesIn before piece (Ok o) after) e took
