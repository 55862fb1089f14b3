-- The results for a message that is held in segments. (Our own.)
use Rattle.std.specs.Prelude.{◌≡◌, ℕ, List, ⊤, Result, Ok, Err}
use Rattle.capn_stream.specs.Segments.{IsHeld, IsUnheld}
use Rattle.capn_stream.specs.declared.segments_fault.SegmentsFault.TheVariants as segments
use Rattle.capn_stream.specs.declared.fault.FrameFault.{FrameFault}
use Rattle.capn_stream.specs.declared.fault.FrameFault.TheVariants as frame
use Rattle.capn_value.specs.Tree.{Tree}
use Rattle.capn_walk.specs.Accepted.{IsValueOf}
use Rattle.capn_walk.specs.Limits.{Bounds}
use Rattle.capn_walk.specs.Surveyed.{IsSurvey}
use Rattle.capn_walk.specs.declared.survey_answer.Surveyed.{Surveyed}
use Rattle.capn_canon.specs.Denotes.{AnswersMessage}
use Rattle.capn_canon.specs.Refusal.{IsRefusedMessage}
use Rattle.capn_canon.specs.declared.refusal.Refusal.{Refusal}
use Rattle.capn_canon.specs.declared.refusal.Refusal.TheVariants as refusals
use Rattle.capn_c.specs.Figures.{AreFigures}
use Rattle.capn_c.specs.declared.figures.CapnFigures.{CapnFigures}

-- `message` is held (`IsHeld`) within the limits, and accepted with the value `v`.
pub record DenotesHeld (message : List (List ℕ)) (limits : Bounds) (v : Tree) : Type 0 where
  pub held : IsHeld message limits.message_words
  pub value : IsValueOf message limits v

-- `message` is held (`IsHeld`) within the limits, and has the canonical bytes `bytes` and the price `price`.
pub record AnswersHeld (message : List (List ℕ)) (limits : Bounds) (bytes : List ℕ) (price : ℕ) : Type 0 where
  pub held : IsHeld message limits.message_words
  pub answer : AnswersMessage message limits bytes price

-- `message` is held (`IsHeld`) within the limits, and accepted with the survey `s`.
pub record SurveysHeld (message : List (List ℕ)) (limits : Bounds) (s : Surveyed) : Type 0 where
  pub held : IsHeld message limits.message_words
  pub survey : IsSurvey message limits s

-- `message` is held (`IsHeld`) within the limits, and accepted with the figures `f`.
pub record FiguresHeld (message : List (List ℕ)) (limits : Bounds) (f : CapnFigures) : Type 0 where
  pub held : IsHeld message limits.message_words
  pub are : AreFigures message limits f

-- The fault says why the segments of `message` are no message of at most `most` words.
abbrev pub IsMisheld : List (List ℕ) → ℕ → FrameFault → Type 0
IsMisheld message most frame.Empty = IsUnheld message most segments.Empty
IsMisheld message most (frame.TooManySegments n) = IsUnheld message most (segments.TooManySegments n)
IsMisheld message most (frame.TooManyWords n) = IsUnheld message most (segments.TooManyWords n)
IsMisheld message most _ = ⊥

-- The result is `Ok` with `message` if the segments of `message` are held within the limits. Otherwise it is an `Err`
-- with the reason why the segments are no message.
abbrev pub IsHeldOr : List (List ℕ) → Bounds → Result (List (List ℕ)) Refusal → Type 0
IsHeldOr message limits (Ok read) = (read ≡ message) × IsHeld message limits.message_words
IsHeldOr message limits (Err (refusals.Frame e)) = IsMisheld message limits.message_words e
IsHeldOr message limits (Err _) = ⊥

-- The refusal is true of the segments of `message`: they are no message within the limits, or the message has no
-- canonical bytes. `Memory` always counts as true.
abbrev pub IsRefusedHeld : List (List ℕ) → Bounds → Refusal → Type 0
IsRefusedHeld message limits (refusals.Frame e) = IsMisheld message limits.message_words e
IsRefusedHeld message limits (refusals.Walk s) = IsHeld message limits.message_words
    × IsRefusedMessage message limits (refusals.Walk s)
IsRefusedHeld message limits (refusals.Capability k) = IsHeld message limits.message_words
    × IsRefusedMessage message limits (refusals.Capability k)
IsRefusedHeld message limits refusals.Memory = ⊤
IsRefusedHeld message limits _ = ⊥

-- The refusal says why the segments of `message` are no message or are not accepted. `Memory` always counts as true.
abbrev pub IsUnacceptedHeld : List (List ℕ) → Bounds → Refusal → Type 0
IsUnacceptedHeld message limits (refusals.Capability k) = ⊥
IsUnacceptedHeld message limits r = IsRefusedHeld message limits r
