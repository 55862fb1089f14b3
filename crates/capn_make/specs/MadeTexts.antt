-- A run of `make_texts`, which writes what `make` writes for the plain form of the input. (Our own.)
use Rattle.std.specs.Prelude.{◌≡◌, ◌≢◌, ◌⊎◌, ◌↔◌, ◌≤◌, ◌+◌, ◌^◌, ℕ, List, [], ◌++◌, length, Bool, true}
use Rattle.std.specs.Prelude.{Option, IfSome, Result, Ok, Err}
use Rattle.std.specs.Io.KnownBytes.{Appends, Consumes}
use Rattle.capn_text.specs.Streams.{ended_lines}
use Rattle.capn_text.specs.PlainForm.{plain, own_line}
use Rattle.capn_canon.specs.declared.form.Form.{Form}
use Rattle.capn_make.specs.MadeInput.{Makes}
use Rattle.capn_make.specs.MakeRun.{AreInTime, HasBegunText, HasServed, IsAhead}
use Rattle.capn_make.specs.declared.fault.MakeFault.{MakeFault}
use Rattle.capn_make.specs.declared.fault.MakeFault.TheVariants as faults

-- The fault with its line `n`, if it has a line, replaced by `own n`.
abbrev pub at_own : (ℕ → ℕ) → MakeFault → MakeFault
at_own own faults.Memory = faults.Memory
at_own own faults.Io = faults.Io
at_own own faults.InputTooLong = faults.InputTooLong
at_own own (faults.NotText n) = faults.NotText (own n)
at_own own (faults.Misfit n m) = faults.Misfit (own n) m
at_own own (faults.Capability n index) = faults.Capability (own n) index
at_own own (faults.Another n) = faults.Another (own n)
at_own own faults.NoText = faults.NoText

-- `make` writes `text` for the plain form of `input`, with the given result. In a fault, the line `n` of the plain form
-- is replaced by the line `own_line bytes n`.
abbrev pub MakesTexts : Form → List ℕ → List ℕ → List ℕ → Result (Unit {0}) MakeFault → Type 0
MakesTexts form bytes input text (Ok u) = Makes form (plain input) text (Ok u)
MakesTexts form bytes input text (Err fault) =
    (f : MakeFault) × (fault ≡ at_own (own_line bytes) f) × Makes form (plain input) text (Err f)

-- The `text` that `MakesTexts` gives for `input` and the given result was written, which took the output from `c` to
-- `d`. Otherwise the result is the fault `Memory` or `Io`, or `InputTooLong` if `input` and its plain form together
-- have 2^64 bytes or more.
abbrev pub EndsTexts : Form → Option (List ℕ) → Option (List ℕ) → Result (Unit {0}) MakeFault → List ℕ → List ℕ
    → Type 0
EndsTexts form c d (Ok u) bytes input = (text : List ℕ) × MakesTexts form bytes input text (Ok u) × Appends c d text
EndsTexts form c d (Err fault) bytes input = (fault ≡ faults.Memory) ⊎ ((fault ≡ faults.Io)
    ⊎ (((fault ≡ faults.InputTooLong) × (2 ^ 64 ≤ length input + length (plain input)))
    ⊎ ((text : List ℕ) × MakesTexts form bytes input text (Err fault) × Appends c d text)))

-- `P` holds for the plain form of `bytes`, for `c` and for `d`.
abbrev pub OfPlain : (List ℕ → Option (List ℕ) → Option (List ℕ) → Type 0) → List ℕ → Option (List ℕ)
    → Option (List ℕ) → Type 0
OfPlain P bytes c d = P (plain bytes) c d

-- `bytes` end with a chunk `piece` of at most 65,536 bytes. The plain form of the bytes before `piece` is `whole` and
-- then `last`, which has no newline. `AreInTime` holds for `whole`.
abbrev pub IsInTime : Form → List ℕ → Type 0
IsInTime form bytes = (before : List ℕ) × (piece : List ℕ) × (whole : List ℕ) × (last : List ℕ)
    × (bytes ≡ before ++ piece) × (length piece ≤ 65536) × (plain before ≡ whole ++ last) × (ended_lines last ≡ 0)
    × AreInTime form whole

-- A run of `make_texts` has the result `r`. Before and after the run, the bytes left in the reader are `a` and `b`, and
-- the contents of the writer are `c` and `d`.
pub record MadeTexts (form : Form) (a b c d : Option (List ℕ)) (reader_failed writer_failed : Bool)
    (r : Result (Unit {0}) MakeFault) : Type 0 where
  -- The bytes that were read.
  pub bytes : List ℕ
  pub read : Consumes a b bytes
  -- If `a` is known, `EndsTexts` holds for `r` and for the complete input, the bytes of `a`.
  pub exact : IfSome a (EndsTexts form c d r bytes)
  -- The result is `Io` if and only if the reader or the writer has failed.
  pub io : (r ≡ Err faults.Io) ↔ ((reader_failed ≡ true) ⊎ (writer_failed ≡ true))
  -- The result is `Memory` only if some bytes were read.
  pub memory : r ≡ Err faults.Memory → bytes ≢ []
  -- `HasBegunText` holds for the plain form of `bytes`: a prefix of its messages was written.
  pub begun : HasBegunText form (plain bytes) c d
  -- If the reader failed, `HasServed` holds for the plain form of `bytes`: the messages of its complete texts were
  -- written, except in form `Bare`.
  pub heard : reader_failed ≡ true → HasServed form (plain bytes) c d
  -- When the last chunk of `bytes` was read, `HasServed` held for the plain form of the bytes before that chunk.
  pub ahead : IsAhead (OfPlain (HasServed form)) bytes c d
  -- For an input that is refused, `bytes` are no more than `IsInTime` allows.
  pub time : IsInTime form bytes
