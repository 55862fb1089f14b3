-- A law that follows from the definitions alone. (Our own.)
use Rattle.std.specs.Prelude.{◌≡◌, ℕ, List, Result}
use Rattle.capn_serve.specs.declared.fault.RunFault.{RunFault}
use Rattle.capn_serve.specs.declared.pick.Range.{Range}
use Rattle.capn_serve.specs.declared.pick.StreamForm.TheVariants as forms
use Rattle.capn_serve.specs.PickRun.{IsPicked}

-- For each `most`, `ranges` and stream `input`, the text that is picked from `input` and the result of the run are
-- unique.
abbrev pub PicksOne : Type 0
PicksOne = (most : ℕ) (ranges : List Range) (input t u : List ℕ) (r s : Result (Unit {0}) RunFault)
    → IsPicked most ranges forms.Stream input t r → IsPicked most ranges forms.Stream input u s → (t ≡ u) × (r ≡ s)
