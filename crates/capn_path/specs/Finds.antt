-- The first find of a search among visits. At each visit `finds` gives the find, and `next` gives the aim after a visit
-- without a find. (Our own.)
use Rattle.std.specs.Prelude.{◌≡◌, ℕ, List, [], ◌∷◌, ◌++◌, length, Option, Some, None, Result}
use Rattle.capn_words.specs.declared.space.Place.{Place}
use Rattle.capn_target.specs.declared.target.Target.{Target}
use Rattle.capn_target.specs.declared.target.Fault.{Fault}
use Rattle.capn_target.specs.Target.{target}
use Rattle.capn_walk.specs.Visits.{Visit, visits}
use Rattle.capn_walk.specs.Index.{place_of}
use Rattle.capn_path.specs.Paths.{Leads}

module _ {G F : Type 0} (m : List (List ℕ)) (finds : G → Place → Result Target Fault → Option F) (next : G → G) where
  -- a search that begins with `aim` finds nothing at the slots of the visits, and `after` is the aim after these visits
  abbrev pub IsPassed : G → List Visit → G → Type 0
  IsPassed aim [] after = after ≡ aim
  IsPassed aim (v ∷ vs) after =
      (finds aim (place_of v) (target m (place_of v)) ≡ None) × IsPassed (next aim) vs after

  -- `x` is found at the slot of the visit `here` of `vs`, and nothing is found at the earlier visits `before`. `path`
  -- leads to the slot of `here`.
  pub record Meets (vs : List Visit) (Onward : List ℕ → Place → ℕ → Type 0) (aim : G) (path : List ℕ) (x : F)
      : Type 0 where
    pub to : Place
    pub before : List Visit
    pub here : Visit
    pub behind : List Visit
    pub visits : vs ≡ before ++ here ∷ behind
    pub last : G
    pub passed : IsPassed aim before last
    pub place : place_of here ≡ to
    pub found : finds last to (target m to) ≡ Some x
    pub leads : Onward path to (length before)

  -- `x` is the first find among the visits of the slot at `at` and of all slots below it. The visits are at most
  -- `depth` objects deep, and `path` leads to the slot of `x`.
  abbrev pub IsFirstFind : ℕ → Place → G → List ℕ → F → Type 0
  IsFirstFind depth at aim path x =
      (base : ℕ) → Meets (visits m base depth at) (Leads m base depth at) aim path x

  -- nothing is found among the visits of the slot at `at` and of all slots below it, at most `depth` objects deep
  abbrev pub IsWithoutFind : ℕ → Place → G → Type 0
  IsWithoutFind depth at aim = (base : ℕ) → (after : G) × IsPassed aim (visits m base depth at) after
