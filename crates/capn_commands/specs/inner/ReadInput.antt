-- The bytes that a run has read.
use Rattle.std.specs.Prelude.{◌≡◌, ◌⊎◌, ℕ, ◌+◌, ◌<◌, ◌≤◌, List, length, Bool, true, false, Option}
use Rattle.std.specs.Prelude.{Result, Ok, Err}
use Rattle.std.specs.Io.KnownBytes.{Consumes, IsAtEnd}
use Rattle.capn_serve.specs.WholeInput.{HasGiven, HasGivenAll}
use Rattle.capn_commands.specs.Limits.{most_input}
use Rattle.capn_commands.specs.Text.{taken_of, has_more}
use Rattle.capn_commands.specs.declared.fault.ToolFault.{ToolFault}
use Rattle.capn_commands.specs.declared.fault.ToolFault.TheVariants as faults

-- A reader returned `bytes`, and `P` holds for the number of these bytes. The reader was `old`, and is now `new`.
abbrev pub HasRead : Option (List ℕ) → Option (List ℕ) → (ℕ → Type 0) → Type 0
HasRead old new P = (bytes : List ℕ) × Consumes old new bytes × P (length bytes)

-- A reader returned `bytes`, at most 2^32 + 1 of them. `kept` are the bytes that a run takes, and `is_longer` says
-- whether `bytes` has more bytes than `kept`. If `is_longer` is false, the reader is at its end.
pub record Kept (old new : Option (List ℕ)) (kept : List ℕ) (is_longer : Bool) (bytes : List ℕ) : Type 0 where
  pub read : Consumes old new bytes
  pub bounded : length bytes ≤ most_input + 1
  pub are : taken_of bytes ≡ kept
  pub more : has_more bytes ≡ is_longer
  pub ended : is_longer ≡ false → IsAtEnd new

-- An input was not read to its end, and `fault` is the reason. Memory was refused for `bytes`, or the reader failed, or
-- there are more `bytes` than a run takes.
abbrev pub IsUntaken : Option (List ℕ) → Option (List ℕ) → Bool → ToolFault → Type 0
IsUntaken old new failed fault = (bytes : List ℕ)
    × ((HasGiven old new failed bytes × (((fault ≡ faults.Memory) × (0 < length bytes))
    ⊎ ((fault ≡ faults.InputTooLong) × (most_input < length bytes))))
    ⊎ (Consumes old new bytes × (length bytes ≤ most_input + 1) × (failed ≡ true) × (fault ≡ faults.Io)))

-- An input was read to its end, and `P` holds for its `bytes` and the result. Or the result is the reason why the input
-- was not read to its end (`IsUntaken`).
abbrev pub TakesAll : {T : Type 0} → (List ℕ → Result T ToolFault → Type 0) → Option (List ℕ) → Option (List ℕ) → Bool
    → Result T ToolFault → Type 0
TakesAll P old new failed (Ok x) = (bytes : List ℕ) × HasGivenAll old new failed bytes × P bytes (Ok x)
TakesAll P old new failed (Err fault) = IsUntaken old new failed fault
    ⊎ ((bytes : List ℕ) × HasGivenAll old new failed bytes × P bytes (Err fault))
