-- A stream of messages that is received in pieces. (Our own.)
use Rattle.std.specs.Prelude.{◌≡◌, ◌⊎◌, ℕ, ◌≤◌, List, [], ◌++◌, length, take, Bool, true, false, Result, Ok, Err}
use Rattle.std.specs.Prelude.{⊤}
use Rattle.std.specs.Prelude.{Option, Some, None}
use Rattle.capn_words.specs.Message.{most_message_words, total}
use Rattle.capn_stream.specs.Frames.{Frames}
use Rattle.capn_stream.specs.FrameRefusal.{IsFrameRefused}
use Rattle.capn_stream.specs.inner.Stages.{IsStage, Rests}
use Rattle.capn_stream.specs.declared.fault.FrameFault.{FrameFault}
use Rattle.capn_stream.specs.declared.fault.FrameFault.TheVariants.{Memory, Empty, TooManySegments, TooManyWords, Cut}
use Rattle.capn_stream.specs.declared.fault.FrameFault.TheVariants.{Failed}
use Rattle.capn_stream.specs.declared.stage.Stage.{Stage}

-- the state of a framer: the bytes that were fed after the last message that `take` returned, the greatest number of
-- words of a message, and whether a call has returned an error
pub record Framing : Type 0 where
  pub rest : List ℕ
  pub most : ℕ
  pub failed : Bool

-- `bs` are the frame of a message of at most `most` words
abbrev pub IsFrame : List ℕ → ℕ → Type 0
IsFrame bs most = (message : List (List ℕ)) × Frames bs message × (total message ≤ most)

-- `bs` are empty, or end within a frame
abbrev pub IsUnfinished : List ℕ → ℕ → Type 0
IsUnfinished bs most = IsFrameRefused bs most Empty ⊎ IsFrameRefused bs most Cut

-- The framer received the first `n` bytes of `piece`: all bytes, or those up to the end of a message. The frame is then
-- complete or unfinished.
pub record Feeds (before : Framing) (piece : List ℕ) (n : ℕ) (after : Framing) : Type 0 where
  pub inside : n ≤ length piece
  pub rest : after.rest ≡ before.rest ++ take n piece
  pub held : IsFrame after.rest after.most ⊎ IsUnfinished after.rest after.most
  pub stops : (n ≡ length piece) ⊎ IsFrame after.rest after.most
  pub same : after.most ≡ before.most
  pub was_good : before.failed ≡ false
  pub is_good : after.failed ≡ false

-- this call has returned an error, and no earlier call had
pub record Stops (before after : Framing) : Type 0 where
  pub was_good : before.failed ≡ false
  pub is_failed : after.failed ≡ true

-- For `TooManyWords`, the bytes `held` are `rest` and then a prefix of `piece`. They have the complete table with its
-- padding, and are refused with the same fault. `KeepsHead` says nothing of other faults.
abbrev pub KeepsHead : List ℕ → List ℕ → ℕ → List ℕ → FrameFault → Type 0
KeepsHead rest piece most held (TooManyWords n) =
    ((k : ℕ) × (held ≡ rest ++ take k piece)) × IsFrameRefused held most (TooManyWords n)
KeepsHead rest piece most held Memory = ⊤
KeepsHead rest piece most held Empty = ⊤
KeepsHead rest piece most held (TooManySegments n) = ⊤
KeepsHead rest piece most held Cut = ⊤
KeepsHead rest piece most held Failed = ⊤

-- The result of `feed`: the number of bytes that the framer received, the first error, or `Failed` after an earlier
-- error.
abbrev pub FeedGives : Framing → List ℕ → Result ℕ FrameFault → Framing → Type 0
FeedGives before piece (Ok n) after = Feeds before piece n after
FeedGives before piece (Err Memory) after = Stops before after
FeedGives before piece (Err Empty) after = ⊥
FeedGives before piece (Err (TooManySegments n)) after = Stops before after
    × IsFrameRefused (before.rest ++ piece) before.most (TooManySegments n)
FeedGives before piece (Err (TooManyWords n)) after = Stops before after
    × IsFrameRefused (before.rest ++ piece) before.most (TooManyWords n)
FeedGives before piece (Err Cut) after = ⊥
FeedGives before piece (Err Failed) after = (before.failed ≡ true) × (after ≡ before)

-- The result of `take`. If the bytes are a complete frame, the result is its message, and the framer then has no bytes.
-- Otherwise, or after an error, the result is `None`, and nothing changes.
abbrev pub TakeGives : Framing → Option (List (List ℕ)) → Framing → Type 0
TakeGives before (Some message) after =
    Frames before.rest message × (total message ≤ before.most) × (before.failed ≡ false)
    × (after ≡ record { rest = []; most = before.most; failed = false })
TakeGives before None after = ((before.failed ≡ true) ⊎ IsUnfinished before.rest before.most) × (after ≡ before)

-- The result of `finish`: `Ok` for no bytes or a complete message, `Cut` for an unfinished message, or `Failed` after
-- an earlier error.
abbrev pub FinishGives : Framing → Result (Unit {0}) FrameFault → Framing → Type 0
FinishGives before (Ok u) after = (before.failed ≡ false) × ((before.rest ≡ []) ⊎ IsFrame before.rest before.most)
    × (after ≡ before)
FinishGives before (Err Memory) after = ⊥
FinishGives before (Err Empty) after = ⊥
FinishGives before (Err (TooManySegments n)) after = ⊥
FinishGives before (Err (TooManyWords n)) after = ⊥
FinishGives before (Err Cut) after = Stops before after × IsFrameRefused before.rest before.most Cut
FinishGives before (Err Failed) after = (before.failed ≡ true) × (after ≡ before)

-- `most` is at most `most_message_words`. Until a call has returned an error, `IsStage` and `Rests` hold of `stage` and
-- the bytes `frame`.
pub record IsFramer (frame : List ℕ) (ends : List ℕ) (stage : Stage) (most : ℕ) (failed : Bool) : Type 0 where
  pub small : most ≤ most_message_words
  pub is : failed ≡ false → IsStage stage frame most ends
  pub rests : failed ≡ false → Rests stage frame
