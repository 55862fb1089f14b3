-- The result of a task on bytes in a form: the result for the message in the bytes, or the reason why the bytes are no
-- message.
use Rattle.std.specs.Prelude.{◌≡◌, ◌⊎◌, ℕ, List, Result, Err}
use Rattle.capn_walk.specs.Limits.{Bounds}
use Rattle.capn_canon.specs.declared.form.Form.{Form}
use Rattle.capn_canon.specs.declared.refusal.Refusal.{Refusal}
use Rattle.capn_canon.specs.declared.refusal.Refusal.TheVariants as refusals
use Rattle.capn_canon.specs.MemoryNeed.{MayNeedMemory}
use Rattle.capn_canon.specs.Reads.{Reads}
use Rattle.capn_canon.specs.Refusal.{IsMisread}

-- The refusal is a correct result of reading `bs` in `form`. If it is `Memory`, reading `bs` may need memory. Any other
-- refusal says why `bs` are not read as a message (`IsMisread`). (Our own.)
abbrev pub IsRefusedReading : Form → List ℕ → Bounds → Refusal → Type 0
IsRefusedReading form bs limits refusals.Memory = MayNeedMemory form bs limits
IsRefusedReading form bs limits e = IsMisread form bs limits.message_words e

-- Either `bs` are read as a message for which `answers` allows `r`, or `r` is an `Err` with the refusal of reading `bs`
-- (`IsRefusedReading`). (Our own.)
abbrev pub IsAnswered : {T : Type 0} → Form → List ℕ → Bounds
    → (List (List ℕ) → Bounds → Result T Refusal → Type 0) → Result T Refusal → Type 0
IsAnswered form bs limits answers r =
    ((message : List (List ℕ)) × Reads form bs limits.message_words message × answers message limits r)
    ⊎ ((e : Refusal) × (r ≡ Err e) × IsRefusedReading form bs limits e)

-- Either `bs` are read as a message for which `answers` allows `r`, and the task changes from `old` to `new` as
-- `answers` says. Or `r` is an `Err` with the refusal of reading `bs`, and `new` equals `old`. (Our own.)
abbrev pub IsRun : {T S : Type 0} → Form → List ℕ → Bounds
    → (S → List (List ℕ) → Bounds → Result T Refusal → S → Type 0) → S → Result T Refusal → S → Type 0
IsRun form bs limits answers old r new =
    ((message : List (List ℕ)) × Reads form bs limits.message_words message × answers old message limits r new)
    ⊎ ((e : Refusal) × (r ≡ Err e) × IsRefusedReading form bs limits e × (new ≡ old))
