-- The refusal for each fault of reading bytes or of walking a message. Only faults of memory become `Memory`.
use Rattle.std.specs.Prelude.{◌≡◌, ◌≢◌, ◌⊎◌}
use Rattle.capn_pack.specs.declared.fault.UnpackFault.{UnpackFault}
use Rattle.capn_pack.specs.declared.fault.UnpackFault.TheVariants as unpack_faults
use Rattle.capn_stream.specs.declared.fault.FrameFault.{FrameFault}
use Rattle.capn_stream.specs.declared.fault.FrameFault.TheVariants as frame_faults
use Rattle.capn_target.specs.declared.target.Fault.TheVariants as walk_faults
use Rattle.capn_walk.specs.declared.walk_answer.Stopped.{Stopped}
use Rattle.capn_canon.specs.declared.refusal.Refusal.{Refusal}
use Rattle.capn_canon.specs.declared.refusal.Refusal.TheVariants as refusals
use Rattle.capn_canon.specs.declared.message_refusal.MessageRefusal.{MessageRefusal}
use Rattle.capn_canon.specs.declared.message_refusal.MessageRefusal.TheVariants as messages
use Rattle.capn_canon.specs.declared.message_refusal.IntoRefusal.{IntoRefusal}
use Rattle.capn_canon.specs.declared.message_refusal.IntoRefusal.TheVariants as intos

-- `e` is the `Refusal` for `fault`, a fault of a frame.
abbrev pub IsOfFrame : FrameFault → Refusal → Type 0
IsOfFrame fault e = ((fault ≡ frame_faults.Memory) × (e ≡ refusals.Memory))
    ⊎ ((fault ≢ frame_faults.Memory) × (e ≡ refusals.Frame fault))

-- `e` is the `Refusal` for `fault`, a fault of a packed text.
abbrev pub IsOfPacked : UnpackFault → Refusal → Type 0
IsOfPacked fault e = ((fault ≡ unpack_faults.Memory) × (e ≡ refusals.Memory))
    ⊎ ((fault ≢ unpack_faults.Memory) × (e ≡ refusals.Packed fault))

-- `e` is the `Refusal` for `stopped`, the stop of a walk.
abbrev pub IsOfWalk : Stopped → Refusal → Type 0
IsOfWalk stopped e = ((stopped.fault ≡ walk_faults.Memory) × (e ≡ refusals.Memory))
    ⊎ ((stopped.fault ≢ walk_faults.Memory) × (e ≡ refusals.Walk stopped))

-- `e` is the `Refusal` for the given `MessageRefusal`.
abbrev pub IsOfMessage : MessageRefusal → Refusal → Type 0
IsOfMessage (messages.Walk s) e = e ≡ refusals.Walk s
IsOfMessage (messages.Capability k) e = e ≡ refusals.Capability k

-- `e` is the `IntoRefusal` for the given `MessageRefusal`.
abbrev pub IsOfMessageInto : MessageRefusal → IntoRefusal → Type 0
IsOfMessageInto (messages.Walk s) e = e ≡ intos.Walk s
IsOfMessageInto (messages.Capability k) e = e ≡ intos.Capability k
