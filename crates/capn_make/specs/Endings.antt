-- The result of a run on an input of texts, and the inputs that are refused whatever bytes follow them. (Our own.)
use Rattle.std.specs.Prelude.{◌≤◌, ℕ, ⊤, List, [], ◌∷◌, ◌++◌, Result, Ok, Err}
use Rattle.capn_value.specs.Tree.{Tree}
use Rattle.capn_text.specs.Streams.{ended_lines}
use Rattle.capn_canon.specs.declared.form.Form.{Form}
use Rattle.capn_canon.specs.declared.form.Form.TheVariants as forms
use Rattle.capn_make.specs.MadeInput.{AreFirst, EndsAfter, IsNotOne}
use Rattle.capn_make.specs.declared.fault.MakeFault.{MakeFault}
use Rattle.capn_make.specs.declared.fault.MakeFault.TheVariants as faults

-- `ending` is the result of a run that reads the texts of `input` one after the other. It is `Ok` if `input` is the
-- texts of some values `vs`. If the text after the texts of `vs` is refused, `ending` is the fault of that text.
abbrev pub EndsEach : List ℕ → Result (Unit {0}) MakeFault → Type 0
EndsEach input ending = (vs : List Tree) × (rest : List ℕ) × AreFirst vs input rest × EndsAfter vs rest ending

-- A run on `input` in form `Bare` has the given result. It is `Ok` if `input` is the text of one value, as `AreFirst`
-- states. It is `Err fault` if `IsNotOne input fault` holds.
abbrev pub EndsOnly : List ℕ → Result (Unit {0}) MakeFault → Type 0
EndsOnly input (Ok u) = (v : Tree) × AreFirst (v ∷ []) input []
EndsOnly input (Err fault) = IsNotOne input fault

-- `ending` is the result of a run on `input` in the given form.
abbrev pub Ends : Form → List ℕ → Result (Unit {0}) MakeFault → Type 0
Ends forms.Stream input ending = EndsEach input ending
Ends forms.Packed input ending = EndsEach input ending
Ends forms.Bare input ending = EndsOnly input ending

-- The bytes of `input` that cause the fault are complete. If the fault is `NotText n`, line `n` of `input` has its
-- newline. No bytes cause `NoText`, so `IsWhole` is false for that fault.
abbrev pub IsWhole : List ℕ → MakeFault → Type 0
IsWhole input faults.Memory = ⊤
IsWhole input faults.Io = ⊤
IsWhole input faults.InputTooLong = ⊤
IsWhole input (faults.NotText n) = n ≤ ended_lines input
IsWhole input (faults.Misfit n m) = ⊤
IsWhole input (faults.Capability n index) = ⊤
IsWhole input (faults.Another n) = ⊤
IsWhole input faults.NoText = ⊥

-- A run on `input` in `form` ends with some `fault`, and the bytes of `input` that cause `fault` are complete
-- (`IsWhole`).
abbrev pub IsRefusedForGood : Form → List ℕ → Type 0
IsRefusedForGood form input = (fault : MakeFault) × Ends form input (Err fault) × IsWhole input fault

-- A run on `input ++ more` in `form` ends with one `fault`, whatever bytes `more` are.
abbrev pub IsLostForGood : Form → List ℕ → Type 0
IsLostForGood form input = (fault : MakeFault) × ((more : List ℕ) → Ends form (input ++ more) (Err fault))

-- If the fault has a line `n`, `line` is at most `n`.
abbrev pub IsFrom : ℕ → MakeFault → Type 0
IsFrom line faults.Memory = ⊤
IsFrom line faults.Io = ⊤
IsFrom line faults.InputTooLong = ⊤
IsFrom line (faults.NotText n) = line ≤ n
IsFrom line (faults.Misfit n m) = line ≤ n
IsFrom line (faults.Capability n index) = line ≤ n
IsFrom line (faults.Another n) = line ≤ n
IsFrom line faults.NoText = ⊤
