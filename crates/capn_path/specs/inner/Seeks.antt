-- The result of a search among visits, and the path before and after the search.
use Rattle.std.specs.Prelude.{◌≡◌, ℕ, List, ◌++◌, Option, Some, None, Result}
use Rattle.capn_words.specs.declared.space.Place.{Place}
use Rattle.capn_target.specs.declared.target.Target.{Target}
use Rattle.capn_target.specs.declared.target.Fault.{Fault}
use Rattle.capn_walk.specs.Visits.{Visit, visits, visits_of}
use Rattle.capn_path.specs.Finds.{IsPassed, Meets}
use Rattle.capn_path.specs.Steps.{DescendsTo}
use Rattle.capn_path.specs.Paths.{Leads}

module _ {G F : Type 0} (m : List (List ℕ)) (finds : G → Place → Result Target Fault → Option F) (next : G → G)
    (base : ℕ) where
  -- If the result is a find `x`, `x` is the first find among the visits `vs`, and `new` is `old` followed by a path to
  -- the slot of `x`. If the result is `None`, nothing is found, `after` is the aim after `vs`, and `new` is `old`.
  abbrev pub SeeksIn : List Visit → (List ℕ → Place → ℕ → Type 0) → G → G → List ℕ → List ℕ → Option F → Type 0
  SeeksIn vs leads aim after old new (Some x) =
      (rest : List ℕ) × (new ≡ old ++ rest) × Meets m finds next vs leads aim rest x
  SeeksIn vs leads aim after old new None = (new ≡ old) × IsPassed m finds next aim vs after

  -- `SeeksIn` for the visits of the slot at `at` and of all slots below it, at most `depth` objects deep
  abbrev pub Seeks : ℕ → Place → G → G → List ℕ → List ℕ → Option F → Type 0
  Seeks depth at = SeeksIn (visits m base depth at) (Leads m base depth at)

  -- `SeeksIn` for the visits of the slots `ps` and of all slots below them, at most `depth` objects deep
  abbrev pub SeeksBelow : ℕ → List Place → (ℕ → List ℕ → Type 0) → G → G → List ℕ → List ℕ → Option F → Type 0
  SeeksBelow depth ps are = SeeksIn (visits_of m base depth ps) (DescendsTo m base depth ps are)
