-- The stages of a frame that is received in pieces, and what is known at each stage.
use Rattle.std.specs.Prelude.{◌≡◌, ◌⊎◌, ℕ, ◌<◌, ◌≤◌, List, ◌++◌, length, take, drop, ⊤}
use Rattle.capn_words.specs.Message.{most_segments, AreBytes}
use Rattle.capn_stream.specs.Cuts.{ends_from}
use Rattle.capn_stream.specs.FrameRefusal.{HasCount, HasHead, IsFrameRefused, announced_segments, announced_words}
use Rattle.capn_stream.specs.FrameRefusal.{entries}
use Rattle.capn_stream.specs.FrameRefusal.{entry_number, frame_length, head_length}
use Rattle.capn_stream.specs.declared.fault.FrameFault.{FrameFault}
use Rattle.capn_stream.specs.declared.fault.FrameFault.TheVariants.{Memory, Empty, TooManySegments, TooManyWords, Cut}
use Rattle.capn_stream.specs.declared.fault.FrameFault.TheVariants.{Failed}
use Rattle.capn_stream.specs.declared.stage.Stage.{Stage}
use Rattle.capn_stream.specs.declared.stage.Stage.TheVariants as stages

-- the length in bytes of the frame up to the end of the part that `stage` receives
abbrev pub need : Stage → ℕ
need stages.Count = 4
need (stages.Table segments) = head_length segments
need (stages.Contents start end) = end

-- the ends that the table at the front of `bs` announces, for all segments except the last
abbrev pub announced_ends : List ℕ → List ℕ
announced_ends bs = ends_from 0 (entries (entry_number bs) (drop 4 bs))

-- `stage` has the numbers that the bytes `bs` announce. Once the table is read, `ends` are the announced ends. No
-- earlier part of the frame has a fault.
abbrev pub Knows : Stage → List ℕ → ℕ → List ℕ → Type 0
Knows stages.Count bs most ends = ⊤
Knows (stages.Table segments) bs most ends = HasCount bs × (segments ≡ announced_segments bs)
Knows (stages.Contents start end) bs most ends =
    HasHead bs × (announced_words bs ≤ most) × (start ≡ head_length (announced_segments bs)) × (end ≡ frame_length bs)
    × (ends ≡ announced_ends bs)

-- if `stage` is `Table`, it has at most 4,096 segments
abbrev pub FitsStage : Stage → Type 0
FitsStage stages.Count = ⊤
FitsStage (stages.Table segments) = segments ≤ most_segments
FitsStage (stages.Contents start end) = ⊤

-- `Knows` holds of `stage`, and the bytes `bs` do not go beyond the part that `stage` receives
pub record IsStage (stage : Stage) (bs : List ℕ) (most : ℕ) (ends : List ℕ) : Type 0 where
  pub below : AreBytes bs
  pub knows : Knows stage bs most ends
  pub within : length bs ≤ need stage

-- `stage` receives the contents, and `bs` are the complete frame
abbrev pub IsDone : Stage → List ℕ → Type 0
IsDone stages.Count bs = ⊥
IsDone (stages.Table segments) bs = ⊥
IsDone (stages.Contents start end) bs = length bs ≡ end

-- the part that `stage` receives still lacks bytes, or `bs` are the complete frame
abbrev pub Rests : Stage → List ℕ → Type 0
Rests stage bs = (length bs < need stage) ⊎ IsDone stage bs

-- The first `n` bytes of `piece` were appended to `old`, which gives `new`. There are then `end` bytes, or fewer if all
-- of `piece` was appended.
pub record Extends (old piece : List ℕ) (end n : ℕ) (new : List ℕ) : Type 0 where
  pub inside : n ≤ length piece
  pub text : new ≡ old ++ take n piece
  pub upto : length new ≤ end
  pub below : AreBytes new
  pub stops : length new < end → n ≡ length piece

-- `bs` may be refused with the given fault before the contents of the frame are received. `Memory` is possible for all
-- `bs`.
abbrev pub IsHeadRefused : List ℕ → ℕ → FrameFault → Type 0
IsHeadRefused bs most Memory = ⊤
IsHeadRefused bs most Empty = ⊥
IsHeadRefused bs most (TooManySegments n) = IsFrameRefused bs most (TooManySegments n)
IsHeadRefused bs most (TooManyWords n) = IsFrameRefused bs most (TooManyWords n)
IsHeadRefused bs most Cut = ⊥
IsHeadRefused bs most Failed = ⊥

-- the number of parts of a frame that follow the part that `stage` receives
abbrev pub parts_left : Stage → ℕ
parts_left stages.Count = 2
parts_left (stages.Table segments) = 1
parts_left (stages.Contents start end) = 0

-- `bs` have the complete table and padding, which announce `ends`, and at most `most` words from `start` to `end`
pub record Tabled (bs : List ℕ) (most start end : ℕ) (ends : List ℕ) : Type 0 where
  pub head : HasHead bs
  pub room : announced_words bs ≤ most
  pub begins : start ≡ head_length (announced_segments bs)
  pub stops : end ≡ frame_length bs
  pub cuts : ends ≡ announced_ends bs

-- The first `n` bytes of `piece` were appended to `old`, which gives `new`: all of `piece`, or the bytes up to the end
-- of the frame. `IsStage` and `Rests` hold of `stage` and `new`.
pub record Fills (old piece : List ℕ) (most n : ℕ) (new : List ℕ) (stage : Stage) (ends : List ℕ) : Type 0 where
  pub inside : n ≤ length piece
  pub text : new ≡ old ++ take n piece
  pub is : IsStage stage new most ends
  pub rests : Rests stage new
  pub stops : (n ≡ length piece) ⊎ IsDone stage new
