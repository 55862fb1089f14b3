-- The number of objects on the longest path from a slot.
use Rattle.std.specs.Prelude.{ℕ, zero, suc, ◌+◌, ◌-◌, max, List, [], ◌∷◌, Result, Ok, Err, Option, Some, None}
use Rattle.capn_words.specs.declared.space.Place.{Place}
use Rattle.capn_target.specs.declared.target.Target.{Target}
use Rattle.capn_target.specs.declared.target.Target.TheVariants as targets
use Rattle.capn_target.specs.declared.target.Fault.{Fault}
use Rattle.capn_target.specs.Target.{target}
use Rattle.capn_walk.specs.View.{slots_below}

-- the places of the slots below the target of a pointer, or no places for a fault
abbrev pub below_of : Result Target Fault → List Place
below_of (Ok t) = slots_below t
below_of (Err e) = []

-- the number of levels that a target adds to the depth: 1 for content, else 0
abbrev pub level : Target → ℕ
level (targets.Content s start shape pads) = 1
level _ = 0

-- the greatest of the numbers that `f` gives for the places, or 0 if there are no places
abbrev pub greatest_of : (Place → ℕ) → List Place → ℕ
greatest_of f [] = 0
greatest_of f (p ∷ ps) = max (f p) (greatest_of f ps)

-- the number of objects on the longest path from a target, where `below` gives this number for each slot below the
-- target
abbrev pub reached : (Place → ℕ) → Result Target Fault → ℕ
reached below (Ok (targets.Content s start shape pads)) =
    1 + greatest_of below (slots_below (targets.Content s start shape pads))
reached below found = 0

module _ (message : List (List ℕ)) where
  -- the number of objects on the longest path from the slot at a place, where at most `d` objects are counted
  unfoldable pub reach : ℕ → Place → ℕ
  reach zero at = 0
  reach (suc d) at = reached (reach d) (target message at)

  -- the number of objects on the longest path from any of the slots `ps`, where at most `d` objects are counted
  abbrev pub reach_of : ℕ → List Place → ℕ
  reach_of d ps = greatest_of (reach d) ps

-- the number of objects on the path to the content of a visit, if `depth` levels of the depth limit `limit` remained at
-- the visit. A capability gives 0.
abbrev pub levels_at : ℕ → ℕ → Option ℕ → ℕ
levels_at limit depth None = limit + 1 - depth
levels_at limit depth (Some k) = 0
