-- An input that is read to its end: the bytes that a reader has returned. (Our own.)
use Rattle.std.specs.Prelude.{◌≡◌, ◌⊎◌, ℕ, ◌+◌, ◌<◌, ◌≤◌, ◌^◌, List, length, take, Bool, true, false, Option}
use Rattle.std.specs.Prelude.{Result, Ok, Err}
use Rattle.std.specs.Io.KnownBytes.{Consumes, IsAtEnd}
use Rattle.capn_serve.specs.declared.whole_input.WholeInput.{WholeInput}
use Rattle.capn_serve.specs.declared.fault.RunFault.{RunFault}
use Rattle.capn_serve.specs.declared.fault.RunFault.TheVariants as faults

-- The greatest number of bytes of an input that is read to its end.
abbrev pub most_input : ℕ
most_input = 2 ^ 32

-- A reader has returned `bytes`, at most one byte more than `most_input`, and has not failed.
pub record HasGiven (old new : Option (List ℕ)) (failed : Bool) (bytes : List ℕ) : Type 0 where
  pub read : Consumes old new bytes
  pub bounded : length bytes ≤ most_input + 1
  pub fine : failed ≡ false

-- A reader has returned `bytes`, at most `most_input` of them, and is at the end of its input.
pub record HasGivenAll (old new : Option (List ℕ)) (failed : Bool) (bytes : List ℕ) : Type 0 where
  pub given : HasGiven old new failed bytes
  pub within : length bytes ≤ most_input
  pub ended : IsAtEnd new

-- `fault` says why an input was not read to its end. It is `Memory` after at least one byte, `InputTooLong` after more
-- than `most_input` bytes, or `Io` if the reader failed.
abbrev pub IsUntaken : Option (List ℕ) → Option (List ℕ) → Bool → RunFault → Type 0
IsUntaken old new failed fault = (bytes : List ℕ)
    × ((HasGiven old new failed bytes × (((fault ≡ faults.Memory) × (0 < length bytes))
    ⊎ ((fault ≡ faults.InputTooLong) × (most_input < length bytes))))
    ⊎ (Consumes old new bytes × (length bytes ≤ most_input + 1) × (failed ≡ true) × (fault ≡ faults.Io)))

-- An input was read to its end, and `P` holds for its bytes and the result. Or `fault` says why the input was not read
-- to its end.
abbrev pub TakesAll : {T : Type 0} → (List ℕ → Result T RunFault → Type 0) → Option (List ℕ) → Option (List ℕ) → Bool
    → Result T RunFault → Type 0
TakesAll P old new failed (Ok x) = (bytes : List ℕ) × HasGivenAll old new failed bytes × P bytes (Ok x)
TakesAll P old new failed (Err fault) = IsUntaken old new failed fault
    ⊎ ((bytes : List ℕ) × HasGivenAll old new failed bytes × P bytes (Err fault))

-- The result is `Ok`, with the first `most` bytes of `bytes` and the number of all `bytes`.
abbrev pub IsBeginning : {A : Type 0} → ℕ → List ℕ → Result (WholeInput A) RunFault → Type 0
IsBeginning most bytes (Ok input) = (take most bytes ≡ input.bytes.items) × (length bytes ≡ input.len)
IsBeginning most bytes (Err fault) = ⊥
