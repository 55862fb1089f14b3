-- A run of `make`: its result, and the bytes that it reads and writes. (Our own.)
use Rattle.std.specs.Prelude.{◌≡◌, ◌≢◌, ◌⊎◌, ◌↔◌, ◌≤◌, ◌+◌, ◌*◌, ◌^◌, ℕ, List, [], ◌∷◌, ◌++◌, length, take, Bool, true}
use Rattle.std.specs.Prelude.{Option, IfSome, Result, Ok, Err}
use Rattle.std.specs.Io.KnownBytes.{Appends, Consumes}
use Rattle.capn_words.specs.Watched.{HasBegun}
use Rattle.capn_value.specs.Tree.{Tree}
use Rattle.capn_text.specs.Streams.{few}
use Rattle.capn_canon.specs.Layout.{canon}
use Rattle.capn_canon.specs.declared.form.Form.{Form}
use Rattle.capn_canon.specs.declared.form.Form.TheVariants as forms
use Rattle.capn_make.specs.WrittenValue.{AreMade}
use Rattle.capn_make.specs.MadeInput.{AreFirst, IsUnended, Makes}
use Rattle.capn_make.specs.Endings.{IsRefusedForGood, IsLostForGood}
use Rattle.capn_make.specs.declared.fault.MakeFault.{MakeFault}
use Rattle.capn_make.specs.declared.fault.MakeFault.TheVariants as faults

-- A prefix of some `text` was written, which took the output from `c` to `d`. `text` is what the form writes for values
-- `vs` whose texts are at the front of `input`.
abbrev pub HasBegunEach : Form → List ℕ → Option (List ℕ) → Option (List ℕ) → Type 0
HasBegunEach form input c d = (vs : List Tree) × (rest : List ℕ) × (text : List ℕ) × AreFirst vs input rest
    × AreMade form vs text × HasBegun c d text

-- Either nothing was written, or `input` is the text of some `v`, and a prefix of the canonical bytes of `v` was
-- written. The output is `c` before the writing, and `d` after the writing.
abbrev pub HasBegunOne : List ℕ → Option (List ℕ) → Option (List ℕ) → Type 0
HasBegunOne input c d = Appends c d [] ⊎ ((v : Tree) × AreFirst (v ∷ []) input [] × HasBegun c d (canon v))

-- A prefix of the messages that the form gives for the texts of `input` was written. This took the output from `c` to
-- `d`.
abbrev pub HasBegunText : Form → List ℕ → Option (List ℕ) → Option (List ℕ) → Type 0
HasBegunText forms.Stream input c d = HasBegunEach forms.Stream input c d
HasBegunText forms.Packed input c d = HasBegunEach forms.Packed input c d
HasBegunText forms.Bare input c d = HasBegunOne input c d

-- In a form other than `Bare`, the messages of `vs` were written, which took the output from `c` to `d`. In form
-- `Bare`, `vs` has at most one value, and nothing was written.
abbrev pub IsServed : Form → List Tree → Option (List ℕ) → Option (List ℕ) → Type 0
IsServed forms.Stream vs c d = (text : List ℕ) × AreMade forms.Stream vs text × Appends c d text
IsServed forms.Packed vs c d = (text : List ℕ) × AreMade forms.Packed vs text × Appends c d text
IsServed forms.Bare vs c d = (length vs ≤ 1) × Appends c d []

-- `IsServed` holds for values `vs` whose texts are at the front of `bytes`. The bytes `rest` after those texts do not
-- begin with a text and its line `end` (`IsUnended`).
abbrev pub HasServed : Form → List ℕ → Option (List ℕ) → Option (List ℕ) → Type 0
HasServed form bytes c d = (vs : List Tree) × (rest : List ℕ) × AreFirst vs bytes rest × IsUnended rest
    × IsServed form vs c d

-- `bytes` end with a chunk `piece` of at most 65,536 bytes. `Written` held for the bytes before `piece`, with the
-- output `mid`. Then `more` was written, which took the output from `mid` to `d`.
abbrev pub IsAhead : (List ℕ → Option (List ℕ) → Option (List ℕ) → Type 0) → List ℕ → Option (List ℕ)
    → Option (List ℕ) → Type 0
IsAhead Written bytes c d = (before : List ℕ) × (piece : List ℕ) × (mid : Option (List ℕ)) × (more : List ℕ)
    × (bytes ≡ before ++ piece) × (length piece ≤ 65536) × Written before c mid × Appends mid d more

-- The `text` that `Makes` gives for `input` and the given result was written, which took the output from `c` to `d`.
-- Otherwise the result is the fault `Memory` or `Io`, or `InputTooLong` if `input` has 2^64 bytes or more.
abbrev pub EndsAs : Form → Option (List ℕ) → Option (List ℕ) → Result (Unit {0}) MakeFault → List ℕ → Type 0
EndsAs form c d (Ok u) input = (text : List ℕ) × Makes form input text (Ok u) × Appends c d text
EndsAs form c d (Err fault) input = (fault ≡ faults.Memory) ⊎ ((fault ≡ faults.Io)
    ⊎ (((fault ≡ faults.InputTooLong) × (2 ^ 64 ≤ length input))
    ⊎ ((text : List ℕ) × Makes form input text (Err fault) × Appends c d text)))

-- A run of `make` has the result `r`. Before and after the run, the bytes left in the reader are `a` and `b`, and the
-- contents of the writer are `c` and `d`.
pub record Made (form : Form) (a b c d : Option (List ℕ)) (reader_failed writer_failed : Bool)
    (r : Result (Unit {0}) MakeFault) : Type 0 where
  -- If `a` is known, `EndsAs` holds for `r` and for the complete input, the bytes of `a`.
  pub exact : IfSome a (EndsAs form c d r)
  -- The result is `Io` if and only if the reader or the writer has failed.
  pub io : (r ≡ Err faults.Io) ↔ ((reader_failed ≡ true) ⊎ (writer_failed ≡ true))
  -- `HasBegunText` holds for the `bytes` that were read: a prefix of their messages was written.
  pub begun : (bytes : List ℕ) × Consumes a b bytes × HasBegunText form bytes c d
  -- If the reader failed, `HasServed` holds for the `bytes` that were read: the messages of their complete texts were
  -- written, except in form `Bare`.
  pub heard : reader_failed ≡ true → (bytes : List ℕ) × Consumes a b bytes × HasServed form bytes c d
  -- When the last chunk of `bytes` was read, `HasServed` held for the bytes before that chunk.
  pub ahead : (bytes : List ℕ) × Consumes a b bytes × IsAhead (HasServed form) bytes c d

-- If the first `n` bytes of `bytes` are refused for good, `bytes` has at most 4 `n` + 65,536 bytes. If `IsLostForGood`
-- holds for these `n` bytes, `bytes` has at most 4 (`n` + `few`) + 65,536 bytes.
abbrev pub AreInTime : Form → List ℕ → Type 0
AreInTime form bytes = (n : ℕ) → (IsRefusedForGood form (take n bytes) → length bytes ≤ 4 * n + 65536)
    × (IsLostForGood form (take n bytes) → length bytes ≤ 4 * (n + few) + 65536)

-- The reader returned some `bytes`, and `AreInTime` holds for them. `a` and `b` are the bytes left in the reader before
-- and after the run.
abbrev pub StopsInTime : Form → Option (List ℕ) → Option (List ℕ) → Type 0
StopsInTime form a b = (bytes : List ℕ) × Consumes a b bytes × AreInTime form bytes

-- The reader returned at least one byte. `a` and `b` are the bytes left in the reader before and after the run.
abbrev pub TakesBytes : Option (List ℕ) → Option (List ℕ) → Type 0
TakesBytes a b = (bytes : List ℕ) × Consumes a b bytes × (bytes ≢ [])
