-- A line that is written to a writer, step by step. (Our own.)
use Rattle.std.specs.Prelude.{ℕ, ◌≡◌, List, ◌++◌, Bool, true, false, Option}
use Rattle.std.specs.Io.KnownBytes.{Appends}
use Rattle.capn_words.specs.Watched.{HasBegun}

-- The progress of a line: the bytes `held` that are not written yet, the content `written` of the writer, and whether
-- the writer has failed.
pub record Way : Type 0 where
  pub held : List ℕ
  pub written : Option (List ℕ)
  pub failed : Bool

-- The `Way` with the fields `held`, `written` and `failed`.
abbrev pub way : List ℕ → Option (List ℕ) → Bool → Way
way held written failed = record { held = held; written = written; failed = failed }

-- `line` was written, or a prefix of `line` if the writer has failed.
abbrev pub WritesLine : List ℕ → Option (List ℕ) → Option (List ℕ) → Bool → Type 0
WritesLine line old new true = HasBegun old new line
WritesLine line old new false = Appends old new line

-- If the writer had not failed before, `part` was written, or a prefix of `part` if the writer has failed now. If the
-- writer had failed before, nothing was written.
abbrev pub Goes : List ℕ → Option (List ℕ) → Bool → Option (List ℕ) → Bool → Type 0
Goes part old false new failed = WritesLine part old new failed
Goes part old true new failed = (new ≡ old) × (failed ≡ true)

-- A line began when the content of the writer was `start`, and `said` was appended to the line. If the writer has not
-- failed, `said` is the bytes written since then, followed by `held`. If the writer has failed, a prefix of `said` was
-- written.
abbrev pub IsOnItsWay : Option (List ℕ) → List ℕ → List ℕ → Option (List ℕ) → Bool → Type 0
IsOnItsWay start said held now false = (front : List ℕ) × Appends start now front × (said ≡ front ++ held)
IsOnItsWay start said held now true = HasBegun start now said

-- `part` was appended to a line: if the line had `said` before, it has `said ++ part` now.
pub record Says (part : List ℕ) (old new : Way) : Type 0 where
  pub goes_on : (start : Option (List ℕ)) (said : List ℕ) → IsOnItsWay start said old.held old.written old.failed
      → IsOnItsWay start (said ++ part) new.held new.written new.failed
