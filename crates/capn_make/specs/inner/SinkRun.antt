-- The run of a sink over an input that the sink takes in chunks. (Our own.)
use Rattle.std.specs.Prelude.{◌≡◌, ◌⊎◌, ◌↔◌, ◌≤◌, ℕ, List, [], ◌++◌, length, take, Bool, true, false}
use Rattle.std.specs.Prelude.{Option, Some, None, Result, Ok, Err}
use Rattle.std.specs.Io.KnownBytes.{Appends, Consumes, IsAtEnd}

-- A statement on the bytes that a sink took, and on the contents of the writer before and after that.
abbrev pub Taking : Type 1
Taking = List ℕ → Option (List ℕ) → Option (List ℕ) → Type 0

-- A statement on the bytes that were read, the bytes that follow them, the contents of the writer before and after the
-- run, and the result of the run.
abbrev pub Giving : Type 0 → Type 1
Giving F = List ℕ → List ℕ → Option (List ℕ) → Option (List ℕ) → Result (Unit {0}) F → Type 0

-- `t` is the task of the sink `s`, and `Takes` holds for `s`, `bytes`, `c` and `d`.
abbrev pub Holds : {S T : Type 0} → (S → T) → (S → Taking) → T → S → Taking
Holds task Takes t s bytes c d = (task s ≡ t) × Takes s bytes c d

-- If the result is `Ok`, `Takes` holds for `bytes`. If it is `fault`, `Gives` holds with that result, whatever bytes
-- `more` follow `bytes`.
abbrev pub Feeds : {F : Type 0} → Taking → Giving F → List ℕ → Option (List ℕ) → Option (List ℕ)
    → Result (Unit {0}) F → Type 0
Feeds Takes Gives bytes c d (Ok u) = Takes bytes c d
Feeds Takes Gives bytes c d (Err fault) = (more : List ℕ) → Gives bytes more c d (Err fault)

-- Some `text` was written, which took the output from `c` to `d`. The result `r` is the fault `io` exactly if the
-- writer failed.
abbrev pub Writes : {F : Type 0} → F → Option (List ℕ) → Option (List ℕ) → Bool → Result (Unit {0}) F → Type 0
Writes io c d failed r = ((text : List ℕ) × Appends c d text) × ((r ≡ Err io) ↔ (failed ≡ true))

-- If the result is `count`, the reader returned `count` bytes, at most 65,536, at the front of `buffer`. Then `count`
-- is 0 only at the end of the input. If the result is `None`, the reader failed and returned no bytes.
abbrev pub ReadsPiece : Option (List ℕ) → Option (List ℕ) → Bool → List ℕ → Option ℕ → Type 0
ReadsPiece a b failed buffer None = (failed ≡ true) × Consumes a b []
ReadsPiece a b failed buffer (Some count) = (failed ≡ false) × (count ≤ 65536)
    × (length (take count buffer) ≡ count) × Consumes a b (take count buffer) × (count ≡ 0 → IsAtEnd b)

-- `bytes` end with a chunk `piece` of at most 65,536 bytes. `Takes` held for some sink `s` and the bytes before
-- `piece`, with the output `mid`. Then `more` was written, which took the output from `mid` to `d`.
abbrev pub IsTakenAhead : {S : Type 0} → (S → Taking) → Taking
IsTakenAhead {S = S} Takes bytes c d = (before : List ℕ) × (piece : List ℕ) × (s : S) × (mid : Option (List ℕ))
    × (more : List ℕ) × (bytes ≡ before ++ piece) × (length piece ≤ 65536) × Takes s before c mid × Appends mid d more

-- A run of a sink has the result `r`, and `last` is the sink at its end. Before and after the run, the bytes left in
-- the reader are `a` and `b`, and the contents of the writer are `c` and `d`.
pub record Runs {S F : Type 0} (Takes : S → Taking) (Gives : Giving F) (io : F) (last : S) (a b c d : Option (List ℕ))
    (reader_failed writer_failed : Bool) (r : Result (Unit {0}) F) : Type 0 where
  -- The bytes that were read.
  pub bytes : List ℕ
  pub read : Consumes a b bytes
  -- The reader failed, or the input has ended and `Gives` holds, or `Gives` holds whatever bytes `more` follow.
  pub ended : (reader_failed ≡ true) ⊎ ((IsAtEnd b × Gives bytes [] c d r) ⊎ ((more : List ℕ) → Gives bytes more c d r))
  -- The result is the fault `io` if and only if the reader or the writer has failed.
  pub broken : (r ≡ Err io) ↔ ((reader_failed ≡ true) ⊎ (writer_failed ≡ true))
  -- If the reader failed, the sink has taken all `bytes`.
  pub heard : reader_failed ≡ true → Takes last bytes c d
  -- Before the last chunk of `bytes` was read, the sink had taken the bytes before that chunk.
  pub ahead : IsTakenAhead Takes bytes c d
