-- The slot to which a path leads, found by one step after another, and the holder of that slot.
use Rattle.std.specs.Prelude.{ℕ, zero, suc, ◌+◌, nat_lt, List, [], ◌∷◌, Result, Ok, Option, Some, None}
use Rattle.std.specs.Prelude.{if◌then◌else◌}
use Rattle.capn_words.specs.declared.space.Place.{Place}
use Rattle.capn_words.specs.declared.pointer.Width.TheVariants.{Link}
use Rattle.capn_target.specs.declared.target.Target.{Target}
use Rattle.capn_target.specs.declared.target.Target.TheVariants as targets
use Rattle.capn_target.specs.declared.target.Shape.{Shape}
use Rattle.capn_target.specs.declared.target.Shape.TheVariants as shapes
use Rattle.capn_target.specs.declared.target.Fault.{Fault}
use Rattle.capn_target.specs.Target.{target}
use Rattle.capn_walk.specs.Accepted.{root}
use Rattle.capn_path.specs.declared.holder.Holder.{Holder}
use Rattle.capn_path.specs.declared.holder.Holder.TheVariants.{Struct, Pointers, Row}
use Rattle.capn_path.specs.declared.holder.Spot.{Spot}
use Rattle.capn_path.specs.Holders.{place, row_start}

-- the slot to which the first number of `path` leads among the `n` slots of `holder` from `first` on. The result also
-- has the remaining numbers of `path`, and is `None` if there is no such slot.
abbrev pub step_among : Holder → Place → ℕ → List ℕ → Option (Spot × List ℕ)
step_among holder first n [] = None
step_among holder first n (i ∷ path) =
    if nat_lt i n
    then Some (record { holder = Some holder; place = place first.segment (first.word + i) }, path)
    else None

-- the slot to which the first two numbers of `path` lead among `n` rows of `b` slots each. The result also has the
-- remaining numbers of `path`, and is `None` if there is no such slot.
abbrev pub step_in_rows : ℕ → ℕ → ℕ → ℕ → ℕ → List ℕ → Option (Spot × List ℕ)
step_in_rows s start n a b [] = None
step_in_rows s start n a b (row ∷ path) =
    if nat_lt row n
    then step_among (Row row n (place s (row_start start a b row))) (place s (row_start start a b row + a)) b path
    else None

-- the slot to which the first numbers of `path` lead in an object of the shape. The result also has the remaining
-- numbers of `path`, and is `None` if there is no such slot.
abbrev pub step_in : ℕ → ℕ → Shape → List ℕ → Option (Spot × List ℕ)
step_in s start (shapes.Node a b) path = step_among (Struct a b (place s start)) (place s (start + a)) b path
step_in s start (shapes.Many Link n) path = step_among (Pointers n (place s start)) (place s start) n path
step_in s start (shapes.Many width n) path = None
step_in s start (shapes.Rows n a b span) path = step_in_rows s start n a b path

-- the slot to which the first numbers of `path` lead from a target. The result also has the remaining numbers of
-- `path`, and is `None` if there is no such slot.
abbrev pub step_by : Result Target Fault → List ℕ → Option (Spot × List ℕ)
step_by (Ok (targets.Content s start shape pads)) path = step_in s start shape path
step_by found path = None

-- the result of `follow` for the slot and the remaining numbers after a step, or `None` if the step leads to no slot
abbrev pub onward : (Spot → List ℕ → Option Spot) → Option (Spot × List ℕ) → Option Spot
onward follow (Some x) = follow x.0 x.1
onward follow None = None

module _ (message : List (List ℕ)) where
  -- the slot to which `path` leads from `here`, or `None` if `path` leads to no slot. The first argument, a bound on
  -- the number of steps, has to be at least the length of `path`.
  abbrev pub follow : ℕ → Spot → List ℕ → Option Spot
  follow zero here path = Some here
  follow (suc n) here [] = Some here
  follow (suc n) here (i ∷ path) = onward (follow n) (step_by (target message here.place) (i ∷ path))

-- the root's slot, which has no holder
abbrev pub start : Spot
start = record { holder = None; place = root }

-- the holder of a slot, or `None` if there is no slot or the slot has no holder
abbrev pub holder_at : Option Spot → Option Holder
holder_at (Some x) = x.holder
holder_at None = None
