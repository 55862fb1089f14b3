-- The texts that display refusals. (Our own.)
use Rattle.std.specs.Prelude.{ℕ, List, ◌++◌, codes}
use Rattle.std.specs.Fmt.{decimal}
use Rattle.capn_words.specs.Display.{bare_text}
use Rattle.capn_pack.specs.Display.{unpack_text}
use Rattle.capn_stream.specs.Display.{frame_text}
use Rattle.capn_walk.specs.Display.{stopped_text}
use Rattle.capn_canon.specs.declared.refusal.Refusal.{Refusal}
use Rattle.capn_canon.specs.declared.refusal.Refusal.TheVariants as refusals
use Rattle.capn_canon.specs.declared.message_refusal.MessageRefusal.{MessageRefusal}
use Rattle.capn_canon.specs.declared.message_refusal.MessageRefusal.TheVariants as messages
use Rattle.capn_canon.specs.declared.message_refusal.IntoRefusal.{IntoRefusal}
use Rattle.capn_canon.specs.declared.message_refusal.IntoRefusal.TheVariants as intos

-- The text that displays the given `Refusal`.
abbrev pub refusal_text : Refusal → List ℕ
refusal_text (refusals.Bare fault) = codes "bare: " ++ bare_text fault
refusal_text (refusals.Packed fault) = codes "packed: " ++ unpack_text fault
refusal_text (refusals.Frame fault) = codes "frame: " ++ frame_text fault
refusal_text (refusals.Trailing at) = codes "trailing bytes at " ++ decimal at
refusal_text (refusals.Walk stopped) = stopped_text stopped
refusal_text (refusals.Capability index) = codes "capability " ++ decimal index
refusal_text refusals.Memory = codes "out of memory"

-- The text that displays the given `MessageRefusal`.
abbrev pub message_refusal_text : MessageRefusal → List ℕ
message_refusal_text (messages.Walk stopped) = stopped_text stopped
message_refusal_text (messages.Capability index) = codes "capability " ++ decimal index

-- The text that displays the given `IntoRefusal`.
abbrev pub into_refusal_text : IntoRefusal → List ℕ
into_refusal_text (intos.Walk stopped) = stopped_text stopped
into_refusal_text (intos.Capability index) = codes "capability " ++ decimal index
into_refusal_text (intos.NoRoom needed paid) = codes "no room for " ++ (decimal needed ++ codes " bytes")
