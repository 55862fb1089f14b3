-- Laws of packing and unpacking streams. (Our own.)
use Rattle.std.specs.Prelude.{◌≡◌, ℕ, List, Bool}
use Rattle.capn_commands.specs.Flow.{Ending, Flow}
use Rattle.capn_commands.specs.PackRun.{packing}
use Rattle.capn_commands.specs.UnpackRun.{unpacking}

-- If `f.gives` relates `bytes` and `is_longer` to `text` and `r`, and also to `other` and `s`, then `text` is `other`,
-- and `r` is `s`.
abbrev pub GivesOne : Flow → Type 0
GivesOne f = (bytes text other : List ℕ) (is_longer : Bool) (r s : Ending) → f.gives bytes is_longer text r
    → f.gives bytes is_longer other s → (text ≡ other) × (r ≡ s)

-- `GivesOne` holds for `packing`.
abbrev pub PackingGivesOne : Type 0
PackingGivesOne = GivesOne packing

-- `GivesOne` holds for `unpacking`.
abbrev pub UnpackingGivesOne : Type 0
UnpackingGivesOne = GivesOne unpacking
