-- The next message of a reader. (Our own.)
use Rattle.std.specs.Prelude.{◌≡◌, ◌≢◌, ◌⊎◌, ⊤, ℕ, ◌+◌, ◌*◌, ◌<◌, ◌≤◌, List, [], ◌++◌, length, Bool, true}
use Rattle.std.specs.Prelude.{false, Result, Ok, Err, Option, Some, None}
use Rattle.std.specs.Io.KnownBytes.{Consumes, IsAtEnd}
use Rattle.capn_words.specs.Message.{total}
use Rattle.capn_stream.specs.Frames.{Frames, StandsFirst, most_table_words}
use Rattle.capn_stream.specs.StreamPieces.{Framing, IsUnfinished}
use Rattle.capn_stream.specs.FrameRefusal.{EndsWithin, IsFrameRefused, announced_segments, head_length}
use Rattle.capn_stream.specs.declared.fault.FrameFault.{FrameFault}
use Rattle.capn_stream.specs.declared.fault.FrameFault.TheVariants as frames
use Rattle.capn_stream.specs.declared.fault.ReadFault.{ReadFault}
use Rattle.capn_stream.specs.declared.fault.ReadFault.TheVariants as faults

-- the greatest length in bytes of a frame with at most `most` words: the longest table, and then the words
abbrev pub most_bytes : ℕ → ℕ
most_bytes most = 8 * (most_table_words + most)

-- The bytes `bs` were read, and are refused with `TooManySegments`, `TooManyWords` or `Cut`. For `Cut` the reader is at
-- its end.
abbrev pub IsUnread : List ℕ → ℕ → Option (List ℕ) → FrameFault → Type 0
IsUnread bs most new frames.Memory = ⊥
IsUnread bs most new frames.Empty = ⊥
IsUnread bs most new (frames.TooManySegments n) = IsFrameRefused bs most (frames.TooManySegments n)
IsUnread bs most new (frames.TooManyWords n) = IsFrameRefused bs most (frames.TooManyWords n)
IsUnread bs most new frames.Cut = IsFrameRefused bs most frames.Cut × IsAtEnd new
IsUnread bs most new frames.Failed = ⊥

-- the result of reading the bytes `bs`, if `new` is the reader's remaining input and `failed` says whether the reader
-- failed
abbrev pub ReadAnswers : List ℕ → ℕ → Option (List ℕ) → Bool → Result (Option (List (List ℕ))) ReadFault → Type 0
ReadAnswers bs most new failed (Ok (Some message)) = Frames bs message × (total message ≤ most) × (failed ≡ false)
ReadAnswers bs most new failed (Ok None) = (bs ≡ []) × IsAtEnd new × (failed ≡ false)
ReadAnswers bs most new failed (Err faults.Memory) = failed ≡ false
ReadAnswers bs most new failed (Err faults.Io) = IsUnfinished bs most × (failed ≡ true)
ReadAnswers bs most new failed (Err (faults.Frame e)) = IsUnread bs most new e × (failed ≡ false)

-- the reader gave `bytes`, which are no longer than the longest frame of `most` words, and `ReadAnswers` holds of them
pub record Received (old new : Option (List ℕ)) (failed : Bool) (most : ℕ)
    (result : Result (Option (List (List ℕ))) ReadFault) (bytes : List ℕ) : Type 0 where
  pub read : Consumes old new bytes
  pub bounded : length bytes ≤ most_bytes most
  pub answer : ReadAnswers bytes most new failed result

-- the reader gave some bytes, and `Received` holds of these bytes and `result`
abbrev pub ReadGives : Option (List ℕ) → Option (List ℕ) → Bool → ℕ → Result (Option (List (List ℕ))) ReadFault → Type 0
ReadGives old new failed most result = (bytes : List ℕ) × Received old new failed most result bytes

-- `bs` are the bytes that the reader gave. For `Memory` and `Io`, `EndsWithin` holds of `bs`, and for `Memory` there is
-- at least one byte. For `TooManySegments`, `bs` are the count, for `TooManyWords` the table with its padding, and for
-- `Cut` the reader is at its end.
abbrev pub StandsInside : List ℕ → ℕ → Option (List ℕ) → Result (Option (List (List ℕ))) ReadFault → Type 0
StandsInside bs most new (Ok answer) = ⊤
StandsInside bs most new (Err faults.Memory) = (0 < length bs) × EndsWithin bs most
StandsInside bs most new (Err faults.Io) = EndsWithin bs most
StandsInside bs most new (Err (faults.Frame frames.Memory)) = ⊥
StandsInside bs most new (Err (faults.Frame frames.Empty)) = ⊥
StandsInside bs most new (Err (faults.Frame (frames.TooManySegments n))) = length bs ≡ 4
StandsInside bs most new (Err (faults.Frame (frames.TooManyWords n))) = length bs ≡ head_length (announced_segments bs)
StandsInside bs most new (Err (faults.Frame frames.Cut)) = IsAtEnd new
StandsInside bs most new (Err (faults.Frame frames.Failed)) = ⊥

-- the reader gave some bytes, and `Received` and `StandsInside` hold of these bytes and `result`
abbrev pub StopsInside : Option (List ℕ) → Option (List ℕ) → Bool → ℕ → Result (Option (List (List ℕ))) ReadFault
    → Type 0
StopsInside old new failed most result = (bytes : List ℕ) × Received old new failed most result bytes
    × StandsInside bytes most new result

-- the result of feeding `piece` to a framer in the state `before`: a complete message, `None` for an unfinished frame,
-- the fault of the frame, or `Memory`
abbrev pub TakesIn : Framing → List ℕ → Result (Option (List (List ℕ))) ReadFault → Framing → Type 0
TakesIn before piece (Ok (Some message)) after = Frames (before.rest ++ piece) message × (total message ≤ before.most)
TakesIn before piece (Ok None) after =
    (after.rest ≡ before.rest ++ piece) × (after.most ≡ before.most) × (after.failed ≡ false)
    × IsUnfinished after.rest before.most
TakesIn before piece (Err faults.Memory) after = ⊤
TakesIn before piece (Err faults.Io) after = ⊥
TakesIn before piece (Err (faults.Frame frames.Memory)) after = ⊥
TakesIn before piece (Err (faults.Frame frames.Empty)) after = ⊥
TakesIn before piece (Err (faults.Frame (frames.TooManySegments n))) after =
    IsFrameRefused (before.rest ++ piece) before.most (frames.TooManySegments n)
TakesIn before piece (Err (faults.Frame (frames.TooManyWords n))) after =
    IsFrameRefused (before.rest ++ piece) before.most (frames.TooManyWords n)
TakesIn before piece (Err (faults.Frame frames.Cut)) after = ⊥
TakesIn before piece (Err (faults.Frame frames.Failed)) after = ⊥

-- the result at the end of the input, if `rest` was read: `None` if `rest` is empty, or `Cut` if `rest` ends within a
-- frame
abbrev pub EndGives : List ℕ → ℕ → Result (Option (List (List ℕ))) ReadFault → Type 0
EndGives rest most (Ok (Some message)) = ⊥
EndGives rest most (Ok None) = rest ≡ []
EndGives rest most (Err faults.Memory) = ⊥
EndGives rest most (Err faults.Io) = ⊥
EndGives rest most (Err (faults.Frame frames.Memory)) = ⊥
EndGives rest most (Err (faults.Frame frames.Empty)) = ⊥
EndGives rest most (Err (faults.Frame (frames.TooManySegments n))) = ⊥
EndGives rest most (Err (faults.Frame (frames.TooManyWords n))) = ⊥
EndGives rest most (Err (faults.Frame frames.Cut)) = IsFrameRefused rest most frames.Cut
EndGives rest most (Err (faults.Frame frames.Failed)) = ⊥

-- The result of reading from a reader with the input `input`: the first message in `input`, or no message if `input` is
-- empty, or the reason why `input` begins with no message. `Memory` and `Io` say nothing of `input`.
abbrev pub ReadsFirst : ℕ → Result (Option (List (List ℕ))) ReadFault → List ℕ → Type 0
ReadsFirst most (Ok (Some message)) input = (taken : ℕ) × StandsFirst input most message taken
ReadsFirst most (Ok None) input = input ≡ []
ReadsFirst most (Err faults.Memory) input = ⊤
ReadsFirst most (Err faults.Io) input = ⊤
ReadsFirst most (Err (faults.Frame e)) input = IsFrameRefused input most e × (e ≢ frames.Memory) × (e ≢ frames.Empty)

-- if `input` begins with a message, the result is that message, or `Memory`, or `Io`
abbrev pub OnlyFirst : ℕ → Result (Option (List (List ℕ))) ReadFault → List ℕ → Type 0
OnlyFirst most result input =
    (message : List (List ℕ)) (taken : ℕ) → StandsFirst input most message taken → (result ≡ Ok (Some message))
    ⊎ ((result ≡ Err faults.Memory) ⊎ (result ≡ Err faults.Io))
