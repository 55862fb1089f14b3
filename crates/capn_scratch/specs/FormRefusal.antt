-- The relations that say when a `FormRefusal` is true of bytes in a form. (Our own.)
use Rattle.std.specs.Prelude.{◌≡◌, ◌⊎◌, ℕ, ◌*◌, ◌<◌, ◌≤◌, List, length, ⊤}
use Rattle.capn_walk.specs.Accepted.{IsBounded}
use Rattle.capn_walk.specs.Limits.{Bounds}
use Rattle.capn_canon.specs.declared.form.Form.{Form}
use Rattle.capn_canon.specs.declared.form.Form.TheVariants as forms
use Rattle.capn_canon.specs.declared.message_refusal.IntoRefusal.{IntoRefusal}
use Rattle.capn_canon.specs.declared.message_refusal.IntoRefusal.TheVariants as intos
use Rattle.capn_canon.specs.declared.refusal.Refusal.TheVariants as refusals
use Rattle.capn_canon.specs.Reads.{Reads, Unpacks}
use Rattle.capn_canon.specs.Refusal.{IsMisread}
use Rattle.capn_canon.specs.Theorem.{RefusedInto}
use Rattle.capn_scratch.specs.Needs.{HasScratch, HoldsText, Needs}
use Rattle.capn_scratch.specs.declared.refusal.FormRefusal.{FormRefusal}
use Rattle.capn_scratch.specs.declared.refusal.FormRefusal.TheVariants as told

-- `e` is the `FormRefusal` with the name and the fields of the given `IntoRefusal`.
abbrev pub IsOfInto : IntoRefusal → FormRefusal → Type 0
IsOfInto (intos.Walk s) e = e ≡ told.Walk s
IsOfInto (intos.Capability k) e = e ≡ told.Capability k
IsOfInto (intos.NoRoom n p) e = e ≡ told.NoRoom n p

-- The refusal is `Walk`, `Capability` or `NoRoom`. It is true of `message`, `limits` and `room` (`RefusedInto`).
abbrev pub IsMessageRefused : List (List ℕ) → Bounds → ℕ → FormRefusal → Type 0
IsMessageRefused message limits room (told.Walk s) = RefusedInto message limits room (intos.Walk s)
IsMessageRefused message limits room (told.Capability k) = RefusedInto message limits room (intos.Capability k)
IsMessageRefused message limits room (told.NoRoom n p) = RefusedInto message limits room (intos.NoRoom n p)
IsMessageRefused message limits room _ = ⊥

-- In `form`, `bs` are read as a message that is refused with `e` (`IsMessageRefused`). `bs` need at most `scratch`
-- words of scratch.
abbrev pub IsReadRefused : Form → List ℕ → Bounds → ℕ → ℕ → FormRefusal → Type 0
IsReadRefused form bs limits scratch room e =
    (message : List (List ℕ)) × Reads form bs limits.message_words message × HasScratch form bs scratch
    × IsMessageRefused message limits room e

-- `form` is `Packed`, `bs` unpack to `n` words, and `n` is more than `scratch`.
abbrev pub LacksText : Form → List ℕ → ℕ → ℕ → ℕ → Type 0
LacksText forms.Bare bs most scratch n = ⊥
LacksText forms.Stream bs most scratch n = ⊥
LacksText forms.Packed bs most scratch n =
    (text : List ℕ) × Unpacks bs most text × (8 * n ≡ length text) × (scratch < n)

-- `bs` are read as a message and need `n` words of scratch, and `n` is more than `scratch`. If `form` is `Packed`, the
-- unpacked words alone fit into the scratch (`HoldsText`).
abbrev pub LacksTable : Form → List ℕ → ℕ → ℕ → ℕ → Type 0
LacksTable form bs most scratch n =
    (message : List (List ℕ)) × Reads form bs most message × HoldsText form bs scratch × Needs form bs n × (scratch < n)

-- The refusal is true of `bs` in `form`, with `scratch` words of scratch and a buffer of `room` bytes.
abbrev pub IsFormRefused : Form → List ℕ → Bounds → ℕ → ℕ → FormRefusal → Type 0
IsFormRefused form bs limits scratch room (told.Bare e) = IsMisread form bs limits.message_words (refusals.Bare e)
IsFormRefused form bs limits scratch room (told.Packed e) = IsMisread form bs limits.message_words (refusals.Packed e)
IsFormRefused form bs limits scratch room (told.Frame e) =
    HoldsText form bs scratch × IsMisread form bs limits.message_words (refusals.Frame e)
IsFormRefused form bs limits scratch room (told.Trailing at) =
    HoldsText form bs scratch × IsMisread form bs limits.message_words (refusals.Trailing at)
IsFormRefused form bs limits scratch room (told.NoScratch n) =
    LacksText form bs limits.message_words scratch n ⊎ LacksTable form bs limits.message_words scratch n
IsFormRefused form bs limits scratch room (told.Walk s) = IsReadRefused form bs limits scratch room (told.Walk s)
IsFormRefused form bs limits scratch room (told.Capability k) =
    IsReadRefused form bs limits scratch room (told.Capability k)
IsFormRefused form bs limits scratch room (told.NoRoom n p) =
    IsReadRefused form bs limits scratch room (told.NoRoom n p)

-- The number of words paid, in a `Walk` or a `NoRoom`, is at most `budget`. If the refusal is `Walk`, its `visits` are
-- at most `paid + 1`.
abbrev pub IsFormPaidWithin : ℕ → FormRefusal → Type 0
IsFormPaidWithin budget (told.Walk s) = IsBounded budget s.paid s.visits
IsFormPaidWithin budget (told.NoRoom n p) = p ≤ budget
IsFormPaidWithin budget _ = ⊤
