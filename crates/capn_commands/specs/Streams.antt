-- A stream of messages: the complete messages at its front, their texts, and the bytes after these messages. (Page:
-- serialization over a stream; the order of the faults is our own.)
use Rattle.std.specs.Prelude.{◌≡◌, ◌≢◌, ◌⊎◌, ℕ, ◌≤◌, List, [], ◌∷◌, ◌++◌, Bool, true, false, Option, Some, None, Result}
use Rattle.std.specs.Prelude.{Ok, Err}
use Rattle.std.specs.List.{flat_map, AllByRecursion}
use Rattle.capn_words.specs.Message.{total}
use Rattle.capn_walk.specs.Limits.{Bounds}
use Rattle.capn_stream.specs.Frames.{Frames, StandsFirst}
use Rattle.capn_stream.specs.FrameRefusal as frames
use Rattle.capn_stream.specs.declared.fault.FrameFault.{FrameFault}
use Rattle.capn_stream.specs.declared.fault.FrameFault.TheVariants as frame_faults
use Rattle.capn_canon.specs.declared.refusal.Refusal.TheVariants as refusals
use Rattle.capn_pack.specs.PackedPieces.{Splits}
use Rattle.capn_pack.specs.declared.fault.UnpackFault.TheVariants as cuts
use Rattle.capn_commands.specs.MessageText.{IsMessageText, IsNoMessageText}
use Rattle.capn_commands.specs.declared.plan.MessageText.{MessageText}
use Rattle.capn_commands.specs.declared.fault.ToolFault.{ToolFault}
use Rattle.capn_commands.specs.declared.fault.ToolFault.TheVariants as faults

-- The frame of one message, the message, and the text that is written for the message.
pub record Part : Type 0 where
  pub frame : List ℕ
  pub message : List (List ℕ)
  pub text : List ℕ

-- The frame of `part`.
abbrev pub frame_of : Part → List ℕ
frame_of part = part.frame

-- The text of `part`.
abbrev pub text_of : Part → List ℕ
text_of part = part.text

-- The frames of `parts`, one after the other.
abbrev pub frames_of : List Part → List ℕ
frames_of parts = flat_map frame_of parts

-- The texts of `parts`, one after the other.
abbrev pub texts_of : List Part → List ℕ
texts_of parts = flat_map text_of parts

-- `part.frame` is the frame of `part.message`, which has at most `limits.message_words` words. `part.text` is the text
-- of the kind `piece` for that message.
pub record IsPart (piece : MessageText) (limits : Bounds) (part : Part) : Type 0 where
  pub frame : Frames part.frame part.message
  pub room : total part.message ≤ limits.message_words
  pub text : IsMessageText piece part.message limits part.text

-- `bytes` are the frames of `parts`, and then `rest`. `IsPart` holds for each of `parts`.
pub record AreParts (piece : MessageText) (limits : Bounds) (bytes : List ℕ) (parts : List Part)
    (rest : List ℕ) : Type 0
  where
    pub each : AllByRecursion (IsPart piece limits) parts
    pub is : bytes ≡ frames_of parts ++ rest

-- The result of a run that finds no complete frame, for the reason in the first argument. For `Empty` and `Cut`, the
-- result is the fault in the second argument, if there is one. Otherwise the result is `Ok` for `Empty`, `Memory` for
-- `Memory`, and the refusal of the frame for any other reason.
abbrev pub end_of : FrameFault → Option ToolFault → Result (Unit {0}) ToolFault
end_of frame_faults.Empty (Some fault) = Err fault
end_of frame_faults.Empty None = Ok tt
end_of frame_faults.Cut (Some fault) = Err fault
end_of frame_faults.Cut None = Err (faults.Refused (refusals.Frame frame_faults.Cut))
end_of frame_faults.Memory behind = Err faults.Memory
end_of (frame_faults.TooManySegments n) behind = Err (faults.Refused (refusals.Frame (frame_faults.TooManySegments n)))
end_of (frame_faults.TooManyWords n) behind = Err (faults.Refused (refusals.Frame (frame_faults.TooManyWords n)))
end_of frame_faults.Failed behind = Err (faults.Refused (refusals.Frame frame_faults.Failed))

-- The fault after the last bytes of a stream: `InputTooLong` if the argument is true, and otherwise none.
abbrev pub behind_stream : Bool → Option ToolFault
behind_stream true = Some faults.InputTooLong
behind_stream false = None

-- The fault after the last words of a packed stream. It is `InputTooLong` if the first argument is true. Otherwise it
-- is `Cut at` if bytes of an unfinished group are left, and there is no fault if none are left.
abbrev pub behind_packed : Bool → List ℕ → ℕ → Option ToolFault
behind_packed true rest at = Some faults.InputTooLong
behind_packed false [] at = None
behind_packed false (b ∷ rest) at = Some (faults.Refused (refusals.Packed (cuts.Cut at)))

-- `rest` does not begin with a complete frame, for the reason `e`, and `ending` is `end_of e behind`.
abbrev pub EndsUnframed : Bounds → List ℕ → Option ToolFault → Result (Unit {0}) ToolFault → Type 0
EndsUnframed limits rest behind ending =
    (e : FrameFault) × (e ≢ frame_faults.Memory) × frames.IsFrameRefused rest limits.message_words e
    × (ending ≡ end_of e behind)

-- `rest` begins with a `message` that has no text of the kind `piece`, for the reason `fault`. `ending` is `Err fault`.
abbrev pub EndsRefused : MessageText → Bounds → List ℕ → Result (Unit {0}) ToolFault → Type 0
EndsRefused piece limits rest ending =
    (message : List (List ℕ)) × (taken : ℕ) × (fault : ToolFault) × StandsFirst rest limits.message_words message taken
    × IsNoMessageText piece message limits fault × (ending ≡ Err fault)

-- A stream that begins with `bytes` has the output `text` and the result `ending`. `text` is the texts of `parts`.
-- After `parts` there is no complete frame (`EndsUnframed`), or a message that has no text (`EndsRefused`).
pub record IsDueEach (piece : MessageText) (limits : Bounds) (bytes : List ℕ) (behind : Option ToolFault)
    (text : List ℕ)
    (ending : Result (Unit {0}) ToolFault) : Type 0 where
  pub parts : List Part
  pub rest : List ℕ
  pub are : AreParts piece limits bytes parts rest
  pub joined : text ≡ texts_of parts
  pub ends : EndsUnframed limits rest behind ending ⊎ EndsRefused piece limits rest ending

-- `IsDueEach` holds for `text`, `ending` and the `words` that the complete groups of `bytes` unpack to.
pub record IsDuePacked (piece : MessageText) (limits : Bounds) (bytes : List ℕ) (is_longer : Bool) (text : List ℕ)
    (ending : Result (Unit {0}) ToolFault) : Type 0 where
  pub words : List ℕ
  pub group : List ℕ
  pub at : ℕ
  pub split : Splits bytes group [] words at
  pub due : IsDueEach piece limits words (behind_packed is_longer group at) text ending
