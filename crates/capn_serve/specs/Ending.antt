-- The end of a run: the error line that is written, and the exit status. (Our own.)
use Rattle.std.specs.Prelude.{ℕ, ◌≡◌, List, [], ◌∷◌, ◌++◌, codes, Bool, false, Option, Result, Ok, Err, refl}
use Rattle.capn_serve.specs.Line.{WritesLine}

-- The text of the fault `Memory`.
abbrev pub out_of_memory : List ℕ
out_of_memory = codes "out of memory"

-- The error line of a fault with this `text`: `capn: `, then `text`, then a newline.
abbrev pub fault_text_line : List ℕ → List ℕ
fault_text_line text = codes "capn: " ++ text ++ 10 ∷ []

memory : fault_text_line out_of_memory ≡ codes "capn: out of memory\n"
memory = refl

-- The error line with `text` was written, or a prefix of that line if the writer has failed.
abbrev pub WritesFault : List ℕ → Option (List ℕ) → Option (List ℕ) → Bool → Type 0
WritesFault text old new failed = WritesLine (fault_text_line text) old new failed

-- After `Ok` nothing was written. After an `Err` the error line of `fault` was written, or a prefix of that line if the
-- writer has failed.
abbrev pub WritesEnding : {F : Type 0} → (F → List ℕ) → Result (Unit {0}) F → Option (List ℕ) → Option (List ℕ) → Bool
    → Type 0
WritesEnding text (Ok u) old new failed = (new ≡ old) × (failed ≡ false)
WritesEnding text (Err fault) old new failed = WritesFault (text fault) old new failed

-- The exit status of a run: 0 after `Ok`, and the status `exit fault` after an `Err`.
abbrev pub status_of_ending : {F : Type 0} → (F → ℕ) → Result (Unit {0}) F → ℕ
status_of_ending exit (Ok u) = 0
status_of_ending exit (Err fault) = exit fault
