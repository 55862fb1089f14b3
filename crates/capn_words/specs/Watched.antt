-- A watched reader or writer, and the calls that count as failed. (Our own.)
use Rattle.std.specs.Prelude.{ℕ, Bool, true, ◌&&◌, ◌==◌, not, List, length, take, Option, Result, Ok, Err}
use Rattle.std.specs.Io.KnownBytes.{Appends}
use Rattle.capn_words.specs.declared.watched.Watched.{Watched}

-- the reader or writer that `w` watches
abbrev pub inner_of : {T : Type 0} → Watched T → T
inner_of w = w.inner

-- true if a call on `w` has failed
abbrev pub has_failed : {T : Type 0} → Watched T → Bool
has_failed w = w.failed

-- true if a write of `piece` fails: it returns an error, or it returns 0 and `piece` is not empty
abbrev pub write_fails : {E : Type 0} → Result ℕ E → List ℕ → Bool
write_fails (Ok n) piece = n == 0 && not (length piece == 0)
write_fails (Err e) piece = true

-- the contents `new` are the contents `old` with a prefix of `text` appended
abbrev pub HasBegun : Option (List ℕ) → Option (List ℕ) → List ℕ → Type 0
HasBegun old new text = (count : ℕ) × Appends old new (take count text)
