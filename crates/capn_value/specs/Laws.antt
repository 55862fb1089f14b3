-- The laws of values, which are about the definitions only. (Our own.)
use Rattle.std.specs.Prelude.{◌≡◌, ◌≤◌, ◌↔◌, List, Some}
use Rattle.capn_value.specs.Tree.{Tree}
use Rattle.capn_value.specs.Same.{Same}
use Rattle.capn_value.specs.Getters.{Step, get}
use Rattle.capn_value.specs.Trim.{trimmed}
use Rattle.capn_value.specs.Fits.{Fits, IsFirst, IsFit, misfit}
use Rattle.capn_value.specs.Cost.{base, cost, height}
use Rattle.capn_value.specs.declared.misfit.Misfit.{Misfit}
use Rattle.capn_value.specs.declared.tariff.Tariff.{Tariff}

-- values `t` and `u` that fit are the same if and only if their trimmed values are equal
abbrev pub SameExactlyTrimmed : Type 0
SameExactlyTrimmed = (t u : Tree) → Fits t → Fits u → Same t u ↔ (trimmed t ≡ trimmed u)

-- a value and its trimmed value are the same (`Same`)
abbrev pub SameOnceTrimmed : Type 0
SameOnceTrimmed = (t : Tree) → Same (trimmed t) t

-- if the value `t` fits, trimming raises neither its height nor its cost by either tariff, and the trimmed value fits
abbrev pub TrimmingIsThrifty : Type 0
TrimmingIsThrifty = (t : Tree) → Fits t
    → ((tariff : Tariff) → cost (base tariff) (trimmed t) ≤ cost (base tariff) t) × (height (trimmed t) ≤ height t)
    × Fits (trimmed t)

-- a value fits if and only if the six facts of `IsFit` hold of it
abbrev pub FittingIsSixFacts : Type 0
FittingIsSixFacts = (t : Tree) → Fits t ↔ IsFit t

-- the misfit of a value is `k` if and only if `k` is the first misfit that the value has
abbrev pub MisfitIsFirst : Type 0
MisfitIsFirst = (t : Tree) (k : Misfit) → (misfit t ≡ Some k) ↔ IsFirst k t

-- two values are the same if and only if all getters return the same for both along every path
abbrev pub SameExactlyToGetters : Type 0
SameExactlyToGetters = (v w : Tree) → Same v w ↔ ((p : List Step) → get v p ≡ get w p)

-- two values are the same if and only if their functions from paths to results are equal, so that anything computed
-- from the getters is equal too
abbrev pub SameToReaders : Type 0
SameToReaders = (v w : Tree) → Same v w ↔ (get v ≡ get w)

-- trimming changes no result of the getters
abbrev pub TrimmedIsToldAlike : Type 0
TrimmedIsToldAlike = (v : Tree) (p : List Step) → get (trimmed v) p ≡ get v p
