-- A reader or a writer before and after a call. (Our own.)
use Rattle.std.specs.Prelude.{ℕ, ◌≡◌, List, Bool, false, Option}

-- The bytes before and after the call, if they are known, and whether the reader or writer has failed after the call.
pub record Course : Type 0 where
  pub before : Option (List ℕ)
  pub after : Option (List ℕ)
  pub failed : Bool

-- The `Course` with the fields `before`, `after` and `failed`.
abbrev pub course : Option (List ℕ) → Option (List ℕ) → Bool → Course
course before after failed = record { before = before; after = after; failed = failed }

-- The content of the reader or writer is the same before and after the call, and the reader or writer has not failed.
abbrev pub IsUntouched : Course → Type 0
IsUntouched end = (end.after ≡ end.before) × (end.failed ≡ false)
