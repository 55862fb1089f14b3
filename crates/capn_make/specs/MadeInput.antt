-- Inputs of texts, each with its line `end`: the messages that a run writes for an input, and its result. (Our own.)
use Rattle.std.specs.Prelude.{◌≡◌, ◌≢◌, ◌⊎◌, ℕ, ◌+◌, ◌≤◌, List, [], ◌∷◌, ◌++◌, Some, Result, Ok, Err}
use Rattle.std.specs.List.{AllByRecursion}
use Rattle.capn_value.specs.Tree.{Tree}
use Rattle.capn_value.specs.FirstCap.{first_cap}
use Rattle.capn_value.specs.Fits.{Fits, misfit}
use Rattle.capn_value.specs.InRange.{InRange}
use Rattle.capn_value.specs.Cost.{height, most_height}
use Rattle.capn_value.specs.Text.{show_text}
use Rattle.capn_value.specs.declared.misfit.Misfit.TheVariants.{Tall}
use Rattle.capn_text.specs.Showable.{IsShowable}
use Rattle.capn_text.specs.Streams.{end_line, ended_lines, ended_text, stream_text, BeginsAs, IsFirstWrong, GoesTooDeep}
use Rattle.capn_canon.specs.Layout.{canon}
use Rattle.capn_canon.specs.declared.form.Form.{Form}
use Rattle.capn_canon.specs.declared.form.Form.TheVariants as forms
use Rattle.capn_make.specs.WrittenValue.{IsMakeable, AreMade}
use Rattle.capn_make.specs.declared.fault.MakeFault.{MakeFault}
use Rattle.capn_make.specs.declared.fault.MakeFault.TheVariants as faults

-- `input` is the texts of `vs`, each with its line `end`, and then `rest`. `IsMakeable` holds for each value of `vs`.
pub record AreFirst (vs : List Tree) (input rest : List ℕ) : Type 0 where
  pub each : AllByRecursion IsMakeable vs
  pub are : input ≡ stream_text vs ++ rest

-- The number of the line after the texts of `vs`, if these texts begin at line 1.
abbrev pub line_after : List Tree → ℕ
line_after vs = 1 + ended_lines (stream_text vs)

-- `rest` does not begin with the text and the line `end` of a value for which `IsMakeable` holds.
abbrev pub IsStuck : List ℕ → Type 0
IsStuck rest = (v : Tree) (more : List ℕ) → IsMakeable v → rest ≡ show_text v ++ (end_line ++ more) → ⊥

-- `rest` does not begin with the text and the line `end` of a value of at most 256 levels for which `IsShowable` holds.
abbrev pub IsUnended : List ℕ → Type 0
IsUnended rest = (v : Tree) (more : List ℕ) → IsShowable v → height v ≤ most_height
    → rest ≢ show_text v ++ (end_line ++ more)

-- `rest`, which begins at `line`, is not empty, and `IsUnended` holds for `rest`. Line `n` is the first wrong line of
-- `rest`.
pub record IsWrong (line : ℕ) (rest : List ℕ) (n : ℕ) : Type 0 where
  pub some : rest ≢ []
  pub none : (v : Tree) (more : List ℕ) → IsShowable v → height v ≤ most_height
      → rest ≢ show_text v ++ (end_line ++ more)
  pub first : (k : ℕ) × (n + 1 ≡ line + k) × IsFirstWrong ended_text k rest

-- The text at the front of `rest`, which begins at `line`, is refused with the given fault. `NotText` is for a wrong
-- line, and `Capability` for a value that has a capability. `Misfit` is for a value that does not fit, or a text that
-- goes too deep.
abbrev pub IsTextRefused : ℕ → List ℕ → MakeFault → Type 0
IsTextRefused line rest faults.Memory = ⊥
IsTextRefused line rest faults.Io = ⊥
IsTextRefused line rest faults.InputTooLong = ⊥
IsTextRefused line rest (faults.NotText n) = IsWrong line rest n
IsTextRefused line rest (faults.Misfit n m) = (n ≡ line)
    × (((m ≡ Tall) × GoesTooDeep rest) ⊎ ((v : Tree) × (more : List ℕ) × InRange v × IsShowable v
    × (height v ≤ most_height) × (rest ≡ show_text v ++ (end_line ++ more)) × (misfit v ≡ Some m)))
IsTextRefused line rest (faults.Capability n index) = (n ≡ line)
    × (v : Tree) × (more : List ℕ) × Fits v × InRange v × (rest ≡ show_text v ++ (end_line ++ more))
    × (first_cap v ≡ Some index)
IsTextRefused line rest (faults.Another n) = ⊥
IsTextRefused line rest faults.NoText = ⊥

-- States the result of a run on an input that is the texts of `vs` and then `rest`. If the result is `Ok`, `rest` is
-- empty. If it is `Err fault`, the text at the front of `rest` is refused with `fault`.
abbrev pub EndsAfter : List Tree → List ℕ → Result (Unit {0}) MakeFault → Type 0
EndsAfter vs rest (Ok u) = rest ≡ []
EndsAfter vs rest (Err fault) = IsTextRefused (line_after vs) rest fault

-- A run on `input` in `form` writes `text` and has the result `ending`. `text` is the messages of the texts of `input`,
-- up to its end or to the first text that is refused.
abbrev pub MakesEach : Form → List ℕ → List ℕ → Result (Unit {0}) MakeFault → Type 0
MakesEach form input text ending = (vs : List Tree) × (rest : List ℕ) × AreFirst vs input rest × AreMade form vs text
    × EndsAfter vs rest ending

-- `rest`, which begins at `line`, follows the only text that form `Bare` takes, and is refused with the given fault.
-- The fault is `Another` if the first line of `rest` begins a text, and otherwise `NotText`.
abbrev pub Follows : ℕ → List ℕ → MakeFault → Type 0
Follows line rest faults.Memory = ⊥
Follows line rest faults.Io = ⊥
Follows line rest faults.InputTooLong = ⊥
Follows line rest (faults.NotText n) = (n ≡ line) × (rest ≢ []) × ((v : Tree) → BeginsAs rest v → ⊥)
Follows line rest (faults.Misfit n m) = ⊥
Follows line rest (faults.Capability n index) = ⊥
Follows line rest (faults.Another n) = (n ≡ line) × (v : Tree) × BeginsAs rest v
Follows line rest faults.NoText = ⊥

-- A run on `input` in form `Bare` ends with `fault`. Either `input` is empty, or its first text is refused, or bytes
-- follow its first text.
abbrev pub IsNotOne : List ℕ → MakeFault → Type 0
IsNotOne input fault = ((input ≡ []) × (fault ≡ faults.NoText)) ⊎ (IsTextRefused 1 input fault
    ⊎ ((v : Tree) × (rest : List ℕ) × AreFirst (v ∷ []) input rest × Follows (line_after (v ∷ [])) rest fault))

-- A run on `input` in form `Bare` writes `text` and has the given result. If it is `Ok`, `input` is the text of one
-- value, and `text` its canonical bytes. If it is `Err fault`, `text` is empty.
abbrev pub MakesOne : List ℕ → List ℕ → Result (Unit {0}) MakeFault → Type 0
MakesOne input text (Ok u) = (v : Tree) × AreFirst (v ∷ []) input [] × (text ≡ canon v)
MakesOne input text (Err fault) = (text ≡ []) × IsNotOne input fault

-- A run on `input` in the given form writes `text` and has the result `ending`.
abbrev pub Makes : Form → List ℕ → List ℕ → Result (Unit {0}) MakeFault → Type 0
Makes forms.Stream input text ending = MakesEach forms.Stream input text ending
Makes forms.Packed input text ending = MakesEach forms.Packed input text ending
Makes forms.Bare input text ending = MakesOne input text ending
