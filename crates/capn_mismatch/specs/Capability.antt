-- The first capability of a message, and the path to that capability's slot. (Our own.)
use Rattle.std.specs.Prelude.{◌≡◌, ℕ, List, Ok, None}
use Rattle.capn_words.specs.declared.space.Place.{Place}
use Rattle.capn_target.specs.declared.target.Target.TheVariants.{Cap}
use Rattle.capn_target.specs.Target.{target}
use Rattle.capn_walk.specs.Limits.{Bounds}
use Rattle.capn_walk.specs.Surveyed.{first_cap_of}
use Rattle.capn_path.specs.Paths.{IsVisited}

-- `path` leads to a slot that the walk of `message` visits. The slot's pointer names the capability `index`. No slot
-- that the walk visits before this slot names a capability.
pub record IsFirstCapability (message : List (List ℕ)) (limits : Bounds) (index : ℕ) (path : List ℕ) : Type 0 where
  pub number : ℕ
  pub at : Place
  pub visited : IsVisited message limits number path at
  pub names : target message at ≡ Ok (Cap index)
  pub none : first_cap_of message visited.before ≡ None
