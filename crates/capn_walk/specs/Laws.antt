-- The laws of walks, for the crates that use this crate.
use Rattle.std.specs.Prelude.{◌≡◌, ◌≢◌, ◌↔◌, ◌⊎◌, ℕ, ◌≤◌, List, Ok}
use Rattle.capn_words.specs.Message.{IsMessage, IsPlace}
use Rattle.capn_words.specs.declared.space.Place.{Place}
use Rattle.capn_value.specs.Tree.{Tree, Trees, Bodies, count, count_rows}
use Rattle.capn_value.specs.Fits.{Fits}
use Rattle.capn_value.specs.InRange.{InRange}
use Rattle.capn_value.specs.Cost.{base, cost, height, most_cost, most_height}
use Rattle.capn_target.specs.declared.target.Target.{Target}
use Rattle.capn_target.specs.declared.target.Target.TheVariants as targets
use Rattle.capn_target.specs.declared.target.Shape.{Shape}
use Rattle.capn_target.specs.declared.target.Fault.{Fault}
use Rattle.capn_target.specs.declared.target.Fault.TheVariants as faults
use Rattle.capn_target.specs.Target.{target}
use Rattle.capn_walk.specs.Visits.{Visit}
use Rattle.capn_walk.specs.Accepted.{IsWithin, IsStop, IsAccepted, IsValueOf, IsWalkRefused, paid}
use Rattle.capn_walk.specs.ValueAt.{IsAt, AreAt, RowsAt}
use Rattle.capn_walk.specs.Depth.{IsDepth}
use Rattle.capn_walk.specs.Limits.{Bounds}
use Rattle.capn_walk.specs.ValueAt.{IsInside}
use Rattle.capn_target.specs.Shapes.{IsInMessage}
use Rattle.capn_target.specs.Ways.{OneOfThree}

-- ---- values

-- an accepted message has a value
abbrev pub AcceptedAreReadable : Type 0
AcceptedAreReadable = (message : List (List ℕ)) (limits : Bounds) → IsAccepted message limits → (v : Tree)
    × IsValueOf message limits v

-- there is at most one value at a place of a message
abbrev pub PlacesHaveOneValue : Type 0
PlacesHaveOneValue = (message : List (List ℕ)) (at : Place) (v w : Tree) → IsAt message at v → IsAt message at w → v ≡ w

-- there is at most one list of values in the slots from a word on, given the number of slots
abbrev pub SlotsHaveOneValue : Type 0
SlotsHaveOneValue = (message : List (List ℕ)) (vs ws : Trees) (segment word : ℕ) → count vs ≡ count ws
    → AreAt message segment word vs → AreAt message segment word ws → vs ≡ ws

-- there is at most one list of bodies in consecutive rows, given the place, the number and the sizes of the rows
abbrev pub RowsHaveOneValue : Type 0
RowsHaveOneValue = (message : List (List ℕ)) (bs cs : Bodies) (words slots segment word : ℕ)
    → count_rows bs ≡ count_rows cs
    → RowsAt message words slots segment word bs → RowsAt message words slots segment word cs → bs ≡ cs

-- each number of a value at a place of a message is in the range of its type
abbrev pub ValuesAreInRange : Type 0
ValuesAreInRange = (message : List (List ℕ)) (at : Place) (v : Tree) → IsMessage message → IsAt message at v → InRange v

-- the value of an accepted message fits in a message, if the budget and the depth limit are in range
abbrev pub ValuesFit : Type 0
ValuesFit = (message : List (List ℕ)) (limits : Bounds) (v : Tree) → limits.budget ≤ most_cost
    → limits.depth ≤ most_height → IsValueOf message limits v → Fits v

-- the value of an accepted message costs at most the number of words that the walk pays, and is no higher than the
-- depth limit
abbrev pub ValuesAreCheap : Type 0
ValuesAreCheap = (message : List (List ℕ)) (limits : Bounds) (v : Tree) → IsValueOf message limits v
    → (cost (base limits.tariff) v ≤ paid message limits) × (height v ≤ limits.depth)

-- the least depth limit with which a message is accepted is the height of the message's value
abbrev pub DepthsAreHeights : Type 0
DepthsAreHeights = (message : List (List ℕ)) (limits : Bounds) (v : Tree) (depth : ℕ) → IsValueOf message limits v
    → IsDepth message limits depth → depth ≡ height v

-- ---- targets

-- the target of the pointer at a place lies inside a segment of the message
abbrev pub TargetsLieInside : Type 0
TargetsLieInside = (message : List (List ℕ)) (at : Place) (found : Target) → IsPlace message at
    → target message at ≡ Ok found → IsInMessage message found

-- if the pointer at a place names content, the value of that content is the value at the place
abbrev pub ContentIsValue : Type 0
ContentIsValue = (message : List (List ℕ)) (at : Place) (segment start pads : ℕ) (shape : Shape) (v : Tree)
    → target message at ≡ Ok (targets.Content segment start shape pads) → IsInside message shape segment start v
    → IsAt message at v

-- ---- verdicts

-- no message is both accepted and refused
abbrev pub Apart : Type 0
Apart = (message : List (List ℕ)) (limits : Bounds) (fault : Fault) (at : Place) (paid visits : ℕ)
    → IsAccepted message limits → IsWalkRefused message limits fault at paid visits → ⊥

-- either the visits `vs` are within `budget`, or the walk with these visits stops at one of them
abbrev pub Decided : Type 0
Decided = (budget : ℕ) (vs : List Visit) → IsWithin budget vs
    ⊎ ((fault : Fault) × (at : Place) × (paid visits : ℕ) × IsStop budget vs fault at paid visits)

-- a walk has at most one stop, with one fault, one place, one number of words paid and one number of visits
abbrev pub StopsAreOne : Type 0
StopsAreOne = (budget : ℕ) (vs : List Visit) (e f : Fault) (at to : Place) (p q k j : ℕ)
    → IsStop budget vs e at p k → IsStop budget vs f to q j → (e ≡ f) × (at ≡ to) × (p ≡ q) × (k ≡ j)

-- the fault of a refused message is never `Memory`
abbrev pub RefusedForTheirWords : Type 0
RefusedForTheirWords = (message : List (List ℕ)) (limits : Bounds) (fault : Fault) (at : Place) (paid visits : ℕ)
    → IsWalkRefused message limits fault at paid visits → fault ≢ faults.Memory

-- there are exactly three ways in which the pointer at a place names content: near, by a landing pad of one word, or by
-- a landing pad of two words
abbrev pub ContentByThreeWays : Type 0
ContentByThreeWays = (message : List (List ℕ)) (at : Place) (segment start pads : ℕ) (shape : Shape)
    → (target message at ≡ Ok (targets.Content segment start shape pads))
    ↔ OneOfThree message at segment start shape pads
