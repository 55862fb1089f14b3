-- The laws of paths: the path to the slot of a visit is unique, and so is the object that holds the slot.
use Rattle.std.specs.Prelude.{◌≡◌, ℕ, ◌<◌, List, length}
use Rattle.capn_words.specs.declared.space.Place.{Place}
use Rattle.capn_walk.specs.Limits.{Bounds}
use Rattle.capn_path.specs.declared.holder.Holder.{Holder}
use Rattle.capn_path.specs.Paths.{IsPathTo}
use Rattle.capn_path.specs.Holders.{IsHolder}

-- the visit that the walk of a message makes after `number` other visits has at most one path, and at most one place
abbrev pub PathsAreOne : Type 0
PathsAreOne = (message : List (List ℕ)) (limits : Bounds) (number : ℕ) (path other : List ℕ) (at to : Place)
    → IsPathTo message limits number path at → IsPathTo message limits number other to → (path ≡ other) × (at ≡ to)

-- if `path` leads to the slot of a visit and is not empty, then `path` leads to that slot only, and gives exactly one
-- `holder` of that slot
abbrev pub HoldersAreOne : Type 0
HoldersAreOne = (message : List (List ℕ)) (limits : Bounds) (number : ℕ) (path : List ℕ) (to : Place)
    → IsPathTo message limits number path to → 0 < length path
    → (holder : Holder) × IsHolder message path to holder
    × ((other : Holder) (at : Place) → IsHolder message path at other → (other ≡ holder) × (at ≡ to))
