-- A stream of bytes that is transformed and written while it is read: the output, and the end of the run. (Our own.)
use Rattle.std.specs.Prelude.{◌≡◌, ◌⊎◌, ◌↔◌, ℕ, ◌+◌, ◌-◌, ◌^◌, ◌<◌, ◌≤◌, nat_lt, List, ◌++◌, length, take}
use Rattle.std.specs.Prelude.{Bool, true, false, Option, IfSome, Result, Err}
use Rattle.std.specs.Io.KnownBytes.{Consumes, Appends, IsAtEnd}
use Rattle.capn_commands.specs.declared.flow_fault.FlowFault.{FlowFault}
use Rattle.capn_commands.specs.declared.flow_fault.FlowFault.TheVariants as faults

-- The result of a run.
abbrev pub Ending : Type 0
Ending = Result (Unit {0}) FlowFault

-- The greatest number of bytes of a stream that a run takes, so that each offset fits into 64 bits.
abbrev pub most : ℕ
most = 2 ^ 64 - 1

-- The bytes of `input` that a run takes, which are the first `most` bytes.
abbrev pub taken_of : List ℕ → List ℕ
taken_of input = take most input

-- True if `input` has more than `most` bytes.
abbrev pub has_more : List ℕ → Bool
has_more input = nat_lt most (length input)

-- A reader returned at least one byte. `old` and `new` are the reader before and after.
abbrev pub TakesBytes : Option (List ℕ) → Option (List ℕ) → Type 0
TakesBytes old new = (bytes : List ℕ) × Consumes old new bytes × (0 < length bytes)

-- A transformation of a stream. `gives` relates the bytes that a run takes, and whether the input has more, to the
-- output and the result. `settles` relates bytes to the output that is written before the next read, and `begins`
-- relates bytes to an output of which a prefix may be written.
pub record Flow : Type 1 where
  pub gives : List ℕ → Bool → List ℕ → Ending → Type 0
  pub settles : List ℕ → List ℕ → Type 0
  pub begins : List ℕ → List ℕ → Type 0

module _ (f : Flow) where
  -- A run over `bytes` has the result `r`: `Memory`, `Io`, or the result that `gives` relates to an output `text`. In
  -- the last case `text` was written. `c` and `d` are the writer before and after.
  abbrev pub HasEnded : List ℕ → Bool → Option (List ℕ) → Option (List ℕ) → Ending → Type 0
  HasEnded bytes is_longer c d r =
      (r ≡ Err faults.Memory)
      ⊎ ((r ≡ Err faults.Io)
      ⊎ ((text : List ℕ) × f.gives bytes is_longer text r × Appends c d text))

  -- `HasEnded` holds for the bytes of `input` that a run takes, and for `r`.
  abbrev pub EndsAs : Option (List ℕ) → Option (List ℕ) → Ending → List ℕ → Type 0
  EndsAs c d r input = HasEnded (taken_of input) (has_more input) c d r

  -- A prefix of some `text` was written, and `begins` relates `bytes` to `text`. The writer was `c`, and is now `d`.
  abbrev pub HasWritten : List ℕ → Option (List ℕ) → Option (List ℕ) → Type 0
  HasWritten bytes c d = (text : List ℕ) × (count : ℕ) × f.begins bytes text × Appends c d (take count text)

  -- `bytes` end with a chunk `piece` of at most 65,536 bytes. Before `piece` was read, a `text` was written, and
  -- `settles` relates the bytes before `piece` to `text`.
  abbrev pub IsAhead : List ℕ → Option (List ℕ) → Option (List ℕ) → Type 0
  IsAhead bytes c d = (before piece text more : List ℕ) × (mid : Option (List ℕ)) × (bytes ≡ before ++ piece)
      × (length piece ≤ 65536) × f.settles before text × Appends c mid text × Appends mid d more

  -- A reader returned `bytes`, at most one byte more than a run takes. `IsAhead` holds for `bytes`, and `HasWritten`
  -- for the bytes that the run takes.
  pub record Begins (a b c d : Option (List ℕ)) : Type 0 where
    pub bytes : List ℕ
    pub read : Consumes a b bytes
    pub bounded : length bytes ≤ most + 1
    pub lazy : IsAhead bytes c d
    pub written : HasWritten (taken_of bytes) c d

  -- A reader returned `bytes`, a `text` was written, and `settles` relates `bytes` to `text`. `a` and `b` are the
  -- reader before and after, and `c` and `d` the writer.
  abbrev pub KeepsUp : Option (List ℕ) → Option (List ℕ) → Option (List ℕ) → Option (List ℕ) → Type 0
  KeepsUp a b c d = (bytes : List ℕ) × (text : List ℕ) × Consumes a b bytes × f.settles bytes text × Appends c d text

  -- A run has the result `r`. Before and after the run, the bytes left in the reader are `a` and `b`, and the contents
  -- of the writer are `c` and `d`.
  pub record Runs (a b c d : Option (List ℕ)) (reader_failed writer_failed : Bool) (r : Ending) : Type 0 where
    pub exact : IfSome a (EndsAs c d r)
    pub io : (r ≡ Err faults.Io) ↔ ((reader_failed ≡ true) ⊎ (writer_failed ≡ true))
    pub begun : Begins a b c d
    pub heard : reader_failed ≡ true → KeepsUp a b c d
    pub memory : r ≡ Err faults.Memory → TakesBytes a b

  -- ---- the progress of a run

  -- A run has the result `r`, after it has taken all `bytes` of its input. `HasEnded` and `HasWritten` hold for
  -- `bytes`. `failed` says whether the writer has failed.
  pub record Ends (bytes : List ℕ) (is_longer : Bool) (c d : Option (List ℕ)) (failed : Bool) (r : Ending) : Type 0
    where
      pub exact : HasEnded bytes is_longer c d r
      pub io : (r ≡ Err faults.Io) ↔ (failed ≡ true)
      pub written : HasWritten bytes c d
      pub memory : r ≡ Err faults.Memory → 0 < length bytes

  -- A run stopped with `fault`, which is `Memory`, or `Io` if the writer failed. `HasWritten` holds for `bytes`.
  pub record Stops (bytes : List ℕ) (c d : Option (List ℕ)) (failed : Bool) (fault : FlowFault) : Type 0 where
    pub kind : (fault ≡ faults.Memory) ⊎ (fault ≡ faults.Io)
    pub io : (fault ≡ faults.Io) ↔ (failed ≡ true)
    pub written : HasWritten bytes c d

-- A reader returned `bytes`, at most one byte more than a run takes. `kept` are the bytes that the run takes, and
-- `is_longer` says whether `bytes` has more bytes than `kept`. If `is_longer` is false, the reader is at its end.
pub record Kept (old new : Option (List ℕ)) (kept : List ℕ) (is_longer : Bool) (bytes : List ℕ) : Type 0 where
  pub read : Consumes old new bytes
  pub bounded : length bytes ≤ most + 1
  pub are : taken_of bytes ≡ kept
  pub more : has_more bytes ≡ is_longer
  pub ended : is_longer ≡ false → IsAtEnd new

-- A reader returned `bytes`, whose number is `taken`, and a `text` was written. `P` holds for `bytes` and `text`.
pub record Consumed (P : List ℕ → List ℕ → Type 0) (a b c d : Option (List ℕ)) (taken : ℕ) : Type 0 where
  pub bytes : List ℕ
  pub text : List ℕ
  pub read : Consumes a b bytes
  pub count : length bytes ≡ taken
  pub wrote : Appends c d text
  pub holds : P bytes text
