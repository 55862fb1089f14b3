-- A run over an input that is taken chunk by chunk by an intake, the state that the trait `Intake` describes.
use Rattle.std.specs.Prelude.{◌≡◌, ◌≢◌, ◌⊎◌, ◌↔◌, ℕ, ◌+◌, ◌<◌, ◌≤◌, ◌^◌, List, [], ◌++◌, length, Bool, true, false}
use Rattle.std.specs.Prelude.{Option, Result, Ok, Err}
use Rattle.std.specs.Io.KnownBytes.{Appends, Consumes, IsAtEnd}
use Rattle.capn_words.specs.Message.{most_message_words}
use Rattle.capn_serve.specs.declared.fault.RunFault.{RunFault}
use Rattle.capn_serve.specs.declared.fault.RunFault.TheVariants as faults
use Rattle.capn_serve.specs.Fold.{Fold}
use Rattle.capn_serve.specs.StreamRun.{has_more, taken_of}

-- The type of a relation. Its arguments are the states of an intake and of a fold, the served bytes, and the writer's
-- content before and after these bytes were served.
abbrev pub Taking : Type 0 → Type 0 → Type 1
Taking I X = I → X → List ℕ → Option (List ℕ) → Option (List ℕ) → Type 0

-- The type of a relation. Its arguments are the served bytes, whether more bytes follow, the writer's content before
-- and after a run, and the result of the run.
abbrev pub Closing : Type 1
Closing = List ℕ → Bool → Option (List ℕ) → Option (List ℕ) → Result (Unit {0}) RunFault → Type 0

-- The type of a relation: for the last states of an intake and of a fold, it gives a `Closing`.
abbrev pub Giving : Type 0 → Type 0 → Type 1
Giving I X = I → X → Closing

-- `takes` holds for some `bytes`, from some first states `first` and `x`. `length bytes + count` is below 2^64.
abbrev pub HasSome : {I X : Type 0} → (I → X → Taking I X) → I → X → ℕ → Option (List ℕ) → Type 0
HasSome {I} {X} takes s y count d = (first : I) × (x : X) × (bytes : List ℕ) × (c : Option (List ℕ))
    × takes first x s y bytes c d × (length bytes + count < 2 ^ 64)

-- A chunk of `count` bytes, at most 65,536, can be served in the states `s` and `y`. The writer has not failed, `y` is
-- not `done`, and `f.most` is at most `most_message_words`. `takes` holds for the bytes before the chunk.
pub record CanFeed {I X : Type 0} (f : Fold X) (takes : I → X → Taking I X) (s : I) (y : X) (count : ℕ)
    (d : Option (List ℕ)) (failed : Bool) : Type 0 where
  pub small : f.most ≤ most_message_words
  pub fine : failed ≡ false
  pub going : f.done y ≡ false
  pub few : count ≤ 65536
  pub some : HasSome takes s y count d

-- A run over `bytes` ends with `r`, for any bytes `more` after `bytes`.
abbrev pub Over : Closing → List ℕ → Option (List ℕ) → Option (List ℕ) → Result (Unit {0}) RunFault → Type 0
Over ends bytes c d r = (more : List ℕ) (is_longer : Bool) → ends (bytes ++ more) is_longer c d r

-- If the result is `Ok` and the state `y` is not `done`, `takes` holds for `bytes`, and more bytes would end the run
-- with `InputTooLong`. If the result is a fault, or `y` is `done`, `Over` holds for that result.
abbrev pub GoesOn : {I X : Type 0} → Taking I X → Giving I X → (X → Bool) → I → X → List ℕ → Option (List ℕ)
    → Option (List ℕ) → Result (Unit {0}) RunFault → Type 0
GoesOn takes gives done s y bytes c d (Ok u) =
    (done y ≡ false → takes s y bytes c d × gives s y bytes true c d (Err faults.InputTooLong))
    × (done y ≡ true → Over (gives s y) bytes c d (Ok u))
GoesOn takes gives done s y bytes c d (Err fault) = Over (gives s y) bytes c d (Err fault)

-- The effect of serving the last chunk of `bytes`. `GoesOn` states whether the run continues. Some `text` was written,
-- and `r` is `Io` exactly if the writer failed.
pub record Feeds {I X : Type 0} (takes : Taking I X) (gives : Giving I X) (done : X → Bool) (bytes : List ℕ)
    (c d e : Option (List ℕ)) (failed : Bool) (r : Result (Unit {0}) RunFault) (s : I) (y : X) : Type 0 where
  pub fed : GoesOn takes gives done s y bytes c e r
  pub wrote : (text : List ℕ) × Appends d e text
  pub broken : (r ≡ Err faults.Io) ↔ (failed ≡ true)

-- For any first states from which `takes` holds for `bytes`, `Feeds` holds for `bytes ++ piece`.
abbrev pub FeedsAfter : {I X : Type 0} → (I → X → Taking I X) → (I → X → Giving I X) → (X → Bool) → I → X → List ℕ
    → Option (List ℕ) → Option (List ℕ) → Bool → Result (Unit {0}) RunFault → I → X → Type 0
FeedsAfter {I} {X} takes gives done s y piece d e failed r t z = (first : I) (x : X) (bytes : List ℕ)
    (c : Option (List ℕ)) → takes first x s y bytes c d
    → Feeds (takes first x) (gives first x) done (bytes ++ piece) c d e failed r t z

-- A run over `bytes` ends with `r` at the end of its input, and `r` is neither `Io` nor `Memory`.
abbrev pub Ends : Closing → List ℕ → Option (List ℕ) → Option (List ℕ) → Result (Unit {0}) RunFault → Type 0
Ends ends bytes c d r = ends bytes false c d r × (r ≢ Err faults.Io) × (r ≢ Err faults.Memory)

-- Let `takes` hold for `bytes`, fewer than 2^64, from some first states `first` and `x` to the states `s` and `y`. Then
-- a run over `bytes` that ends in the states `t` and `y` ends with `r`, as `Ends` states.
abbrev pub EndsAfter : {I X : Type 0} → (I → X → Taking I X) → (I → X → Giving I X) → I → X → Result (Unit {0}) RunFault
    → I → Type 0
EndsAfter {I} {X} takes gives s y r t = (first : I) (x : X) (bytes : List ℕ) (c d : Option (List ℕ))
    → takes first x s y bytes c d → length bytes < 2 ^ 64 → Ends (gives first x t y) bytes c d r

-- `takes` holds for the empty list of bytes. If the state `x` is `done`, `Over` holds for the result `Ok`.
abbrev pub IsNew : {I X : Type 0} → Taking I X → Giving I X → (X → Bool) → I → X → Option (List ℕ) → Type 0
IsNew takes gives done s x c = takes s x [] c c × (done x ≡ true → Over (gives s x) [] c c (Ok tt))

-- `bytes` are `before`, followed by a chunk `piece` of at most 65,536 bytes. `takes` holds for `before` and the
-- writer's contents `c` and `mid`, and then `more` was written. If a byte was read, the state `y` before `piece` was
-- not `done`.
abbrev pub IsTakenAhead : {I X : Type 0} → Taking I X → (X → Bool) → List ℕ → Option (List ℕ) → Option (List ℕ)
    → Type 0
IsTakenAhead {I} {X} takes done bytes c d = (before : List ℕ) × (piece : List ℕ) × (s : I) × (y : X)
    × (mid : Option (List ℕ)) × (more : List ℕ) × (bytes ≡ before ++ piece) × (length piece ≤ 65536)
    × takes s y before c mid × Appends mid d more × ((bytes ≡ []) ⊎ (done y ≡ false))

-- The effect of a run that ends with the result `r` and leaves the states `s` and `y`. `a` and `b` are the reader
-- before and after the run, and `c` and `d` the writer.
pub record Reads {I X : Type 0} (takes : Taking I X) (gives : Giving I X) (done : X → Bool) (limit : ℕ) (s : I) (y : X)
    (a b c d : Option (List ℕ)) (reader_failed writer_failed : Bool) (r : Result (Unit {0}) RunFault) : Type 0 where
  -- `bytes` were read, at most one byte more than `limit`.
  pub bytes : List ℕ
  pub read : Consumes a b bytes
  pub bounded : length bytes ≤ limit + 1
  -- The reader failed, or `gives` holds for the first `limit` bytes of `bytes ++ more`, for any unread bytes `more`.
  pub ended : (reader_failed ≡ true) ⊎ ((more : List ℕ) → (IsAtEnd b → more ≡ [])
      → gives s y (taken_of limit (bytes ++ more)) (has_more limit (bytes ++ more)) c d r)
  -- The result is `Io` if and only if the reader or the writer has failed.
  pub broken : (r ≡ Err faults.Io) ↔ ((reader_failed ≡ true) ⊎ (writer_failed ≡ true))
  -- If the reader failed, `takes` holds for all of `bytes`, and the state `y` is not `done`.
  pub heard : reader_failed ≡ true → (length bytes ≤ limit) × (done y ≡ false) × takes s y bytes c d
  -- When the last chunk was read, all `bytes` before that chunk had been served.
  pub ahead : IsTakenAhead takes done bytes c d
  -- If the result is `Memory`, at least one byte was read.
  pub memory : r ≡ Err faults.Memory → 0 < length bytes
