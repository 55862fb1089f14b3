-- The output of a command that reads its complete input first, and the reason why there is no output. (Our own.)
use Rattle.std.specs.Prelude.{◌≡◌, ◌≢◌, ◌⊎◌, ℕ, ◌*◌, ◌%◌, ◌≤◌, List, [], ◌∷◌, length, Result, Ok, Err, Vec}
use Rattle.capn_words.specs.Message.{IsBare, ReadsBare}
use Rattle.capn_words.specs.declared.bare.BareFault.{BareFault}
use Rattle.capn_pack.specs.Packed.{Packs}
use Rattle.capn_pack.specs.Chosen.{Chosen}
use Rattle.capn_pack.specs.UnpackRefusal as packs
use Rattle.capn_pack.specs.declared.fault.UnpackFault.{UnpackFault}
use Rattle.capn_pack.specs.declared.fault.UnpackFault.TheVariants as unpack_faults
use Rattle.capn_walk.specs.Limits.{Bounds}
use Rattle.capn_canon.specs.Denotes.{Answers}
use Rattle.capn_canon.specs.Reads.{Reads}
use Rattle.capn_canon.specs.Refusal.{IsRefused, IsUnacceptedIn}
use Rattle.capn_canon.specs.declared.form.Form.{Form}
use Rattle.capn_canon.specs.declared.refusal.Refusal.{Refusal}
use Rattle.capn_canon.specs.declared.refusal.Refusal.TheVariants as refusals
use Rattle.capn_commands.specs.MessageText.{IsBareMessageText, IsMessageText, IsNoMessageText}
use Rattle.capn_commands.specs.Plan.{form_of}
use Rattle.capn_commands.specs.declared.plan.MessageText.{MessageText}
use Rattle.capn_commands.specs.declared.plan.MessageText.TheVariants as kinds
use Rattle.capn_commands.specs.declared.plan.Whole.{Whole}
use Rattle.capn_commands.specs.declared.plan.Whole.TheVariants as wholes
use Rattle.capn_commands.specs.declared.fault.ToolFault.{ToolFault}
use Rattle.capn_commands.specs.declared.fault.ToolFault.TheVariants as faults

-- `fault` is `Memory` if `r` is `Memory`, and otherwise the refusal `r`.
abbrev pub IsFaultOf : Refusal → ToolFault → Type 0
IsFaultOf r fault =
    ((r ≡ refusals.Memory) × (fault ≡ faults.Memory)) ⊎ ((r ≢ refusals.Memory) × (fault ≡ faults.Refused r))

-- `r` is the reason why `bytes`, read as one message in `form`, have no text of the given kind. For `Text` and `Price`,
-- the message is not accepted. For `Digest`, the message has no canonical bytes.
abbrev pub IsOneRefused : MessageText → Form → List ℕ → Bounds → Refusal → Type 0
IsOneRefused kinds.Text form bytes limits r = IsUnacceptedIn form bytes limits r
IsOneRefused kinds.Price form bytes limits r = IsUnacceptedIn form bytes limits r
IsOneRefused kinds.Digest form bytes limits r = IsRefused form bytes limits r

-- `text` is the output of `whole` for `bytes`: the packed text, the unpacked words, the canonical bytes of the one
-- message in `bytes`, or a text of that message.
abbrev pub Makes : Whole → List ℕ → List ℕ → Type 0
Makes wholes.Packed bytes text = Chosen text bytes
Makes (wholes.Unpacked most) bytes text = Packs bytes text × (length text ≤ 8 * most)
Makes (wholes.Canonical form limits) bytes text = (price : ℕ) × Answers form bytes limits text price
Makes (wholes.Bare piece limits) bytes text = (words : List ℕ) × IsBare bytes words
    × IsBareMessageText piece words limits text
Makes (wholes.One piece form limits) bytes text = (message : List (List ℕ))
    × Reads (form_of form) bytes limits.message_words message × IsMessageText piece message limits text

-- `fault` is the reason why `whole` has no output for `bytes`. `Packed` needs complete words, `Unpacked` needs packed
-- bytes of at most `most` words, and the other outputs need one message that has the output.
abbrev pub MakesNothing : Whole → List ℕ → ToolFault → Type 0
MakesNothing wholes.Packed bytes fault = (length bytes % 8 ≢ 0) × (fault ≡ faults.NotWhole (length bytes))
MakesNothing (wholes.Unpacked most) bytes fault =
    (e : UnpackFault) × (fault ≡ faults.Refused (refusals.Packed e)) × (e ≢ unpack_faults.Memory)
    × packs.IsUnpackRefused bytes most e
MakesNothing (wholes.Canonical form limits) bytes fault =
    (r : Refusal) × (fault ≡ faults.Refused r) × (r ≢ refusals.Memory) × IsRefused form bytes limits r
MakesNothing (wholes.Bare piece limits) bytes fault =
    ((e : BareFault) × (fault ≡ faults.Refused (refusals.Bare e)) × ReadsBare bytes (Err e))
    ⊎ ((words : List ℕ) × IsBare bytes words × IsNoMessageText piece (words ∷ []) limits fault)
MakesNothing (wholes.One piece form limits) bytes fault =
    (r : Refusal) × (fault ≡ faults.Refused r) × (r ≢ refusals.Memory)
    × IsOneRefused piece (form_of form) bytes limits r

-- After `Ok`, `text` is the output of `whole` for `bytes` (`Makes`). After `Err`, `fault` is `Memory` or the reason why
-- there is no output (`MakesNothing`).
abbrev pub Gives : {A : Type 0} → Whole → List ℕ → Result (Vec ℕ A) ToolFault → Type 0
Gives whole bytes (Ok text) = Makes whole bytes text.items
Gives whole bytes (Err fault) = (fault ≡ faults.Memory) ⊎ MakesNothing whole bytes fault
