-- The forms, tariffs and limits that a caller names by numbers, and the buffer after a call. (Our own.)
use Rattle.std.specs.Prelude.{◌≡◌, ◌⊎◌, ℕ, suc, zero, ◌+◌, ◌*◌, ◌<◌, ◌≤◌, List, ◌++◌, length, drop}
use Rattle.capn_value.specs.declared.tariff.Tariff.{Tariff}
use Rattle.capn_value.specs.declared.tariff.Tariff.TheVariants as tariffs
use Rattle.capn_walk.specs.Limits.{Bounds, AreLimits}
use Rattle.capn_canon.specs.declared.form.Form.{Form}
use Rattle.capn_canon.specs.declared.form.Form.TheVariants as forms
use Rattle.capn_abi.specs.declared.limits.CapnLimits.{CapnLimits}
use Rattle.capn_abi.specs.declared.report.CapnReport.{CapnReport}

-- The form that a number names, or `Bare` if the number names no form.
abbrev pub form_named : ℕ → Form
form_named zero = forms.Stream
form_named (suc zero) = forms.Packed
form_named (suc (suc n)) = forms.Bare

-- `n` names a form: 0, 1 or 2.
abbrev pub IsForm : ℕ → Type 0
IsForm n = n ≤ 2

-- `n` names a form that is not packed: 0 or 2.
abbrev pub IsFlat : ℕ → Type 0
IsFlat n = (n ≡ 0) ⊎ (n ≡ 2)

-- The tariff that a number names, or `Plain` if the number names no tariff.
abbrev pub tariff_named : ℕ → Tariff
tariff_named zero = tariffs.Strict
tariff_named (suc n) = tariffs.Plain

-- `n` names a tariff: 0 or 1.
abbrev pub IsTariff : ℕ → Type 0
IsTariff n = n ≤ 1

-- The limits that the caller's numbers `c` give.
abbrev pub bounds_of : CapnLimits → Bounds
bounds_of c =
    record { message_words = c.message_words; budget = c.budget; depth = c.depth; tariff = tariff_named c.tariff }

-- The caller's numbers `c` are in their ranges. The number of the tariff is not tested.
abbrev pub GiveLimits : CapnLimits → Type 0
GiveLimits c = AreLimits c.message_words c.budget c.depth

-- `new` begins with `answer`. The numbers after `answer` are the same as in `old`.
abbrev pub IsWritten : List ℕ → List ℕ → List ℕ → Type 0
IsWritten answer old new = new ≡ answer ++ drop (length answer) old

-- `old` is too short for `answer`, and `new` is `old`.
abbrev pub HasNoRoom : List ℕ → List ℕ → List ℕ → Type 0
HasNoRoom answer old new = (length old < length answer) × (new ≡ old)

-- `told` is the length of `answer`. Either `status` is 0 and `answer` is written to `new`, or `status` is 1,
-- the buffer `old` is too short, and `new` is `old`.
pub record Delivers (answer : List ℕ) (status told : ℕ) (old new : List ℕ) : Type 0 where
  pub length_is : told ≡ length answer
  pub either : ((status ≡ 0) × IsWritten answer old new) ⊎ ((status ≡ 1) × HasNoRoom answer old new)

-- If the buffer `old` is empty, `status` is 1. The reported length is then 8 bytes for each word paid and 8 more, which
-- is enough for `answer`. If the buffer is not empty, `answer` is delivered.
pub record Serves (answer : List ℕ) (status : ℕ) (report : CapnReport) (old new : List ℕ) : Type 0 where
  pub measured : length old ≡ 0
      → (status ≡ 1) × (report.length ≡ 8 * (report.paid + 1)) × (length answer ≤ report.length)
  pub delivered : 0 < length old → Delivers answer status report.length old new
