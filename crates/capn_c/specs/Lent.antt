-- The statuses of `capn_canonical_with_scratch`, and the number of words needed if the scratch is too short. (Our own.)
use Rattle.std.specs.Prelude.{◌⊎◌, ℕ, Bool, ◌||◌, if◌then◌else◌, nat_eq, nat_lt, List}
use Rattle.capn_canon.specs.declared.form.Form.{Form}
use Rattle.capn_abi.specs.StatusCodes.{is_status}
use Rattle.capn_scratch.specs.FormRefusal.{LacksTable, LacksText}

-- True if `n` is a status that the call can return: 0 to 4, 9 if the scratch is too short, or the status of a refusal.
-- The status 8 of the refusal `Memory` is excluded.
abbrev pub is_lent_status : ℕ → Bool
is_lent_status n = if nat_lt n 10 then nat_lt n 5 || nat_eq n 9 else is_status n

-- `n` words are needed, and the scratch has only `scratch` words. `n` is the number of words that `bs` unpack to
-- (`LacksText`), or of all words that `bs` need (`LacksTable`).
abbrev pub LacksScratch : Form → List ℕ → ℕ → ℕ → ℕ → Type 0
LacksScratch form bs most scratch n = LacksText form bs most scratch n ⊎ LacksTable form bs most scratch n
