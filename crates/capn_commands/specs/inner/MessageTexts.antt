-- The service that writes a text for each message of a stream, or for the one message of a bare input.
use Rattle.std.specs.Prelude.{◌≡◌, ℕ, List}
use Rattle.capn_walk.specs.Limits.{Bounds}
use Rattle.capn_canon.specs.declared.refusal.Refusal.{Refusal}
use Rattle.capn_serve.specs.declared.position.Position.{Position}
use Rattle.capn_serve.specs.declared.service.Run.{Run}
use Rattle.capn_serve.specs.StreamRun.{start}
use Rattle.capn_serve.specs.declared.fault.ServeFault.{ServeFault}
use Rattle.capn_serve.specs.declared.fault.ServeFault.TheVariants as serve_faults
use Rattle.capn_commands.specs.MessageText.{IsMessageText, IsNoMessageText}
use Rattle.capn_commands.specs.declared.message_texts.MessageTexts.{MessageTexts}
use Rattle.capn_commands.specs.declared.plan.MessageText.{MessageText}
use Rattle.capn_commands.specs.declared.fault.ToolFault.{ToolFault}
use Rattle.capn_commands.specs.declared.fault.ToolFault.TheVariants as faults

-- The service that writes the text of the kind `piece` for each message, within `limits`.
abbrev pub message_texts : MessageText → Bounds → MessageTexts
message_texts piece limits = record { piece = piece; limits = limits }

-- `text` is the text of the kind `s.piece` for `message`, and the state `t` is `s`.
abbrev pub serves : MessageTexts → Position → List ℕ → List (List ℕ) → List ℕ → MessageTexts → Type 0
serves s at frame message text t = IsMessageText s.piece message s.limits text × (t ≡ s)

-- `message` has no text of the kind `s.piece`, and `r` is the reason.
abbrev pub refuses : MessageTexts → Position → List ℕ → List (List ℕ) → Refusal → Type 0
refuses s at frame message r = IsNoMessageText s.piece message s.limits (faults.Refused r)

-- The fault of a service for the fault of appending a message's text. `Refused r` stays `Refused r`, and any other
-- fault becomes `Memory`.
abbrev pub served_fault : ToolFault → ServeFault
served_fault (faults.Refused r) = serve_faults.Refused r
served_fault faults.Memory = serve_faults.Memory
served_fault faults.Io = serve_faults.Memory
served_fault faults.InputTooLong = serve_faults.Memory
served_fault (faults.NotWhole n) = serve_faults.Memory

-- The state of a run before its first message. The run writes the text of the kind `piece` for each message.
abbrev pub first_run : MessageText → Bounds → Run MessageTexts
first_run piece limits = record { service = message_texts piece limits; at = start }
