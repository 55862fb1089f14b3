-- The target to which one step of a path leads. (Our own.)
use Rattle.std.specs.Prelude.{ℕ, List, Result, Ok, Err}
use Rattle.capn_words.specs.declared.space.Place.{Place}
use Rattle.capn_target.specs.declared.target.Target.{Target}
use Rattle.capn_target.specs.declared.target.Target.TheVariants as targets
use Rattle.capn_target.specs.declared.target.Shape.TheVariants as shapes
use Rattle.capn_target.specs.declared.target.Fault.{Fault}
use Rattle.capn_target.specs.Target.{target}
use Rattle.capn_walk.specs.Accepted.{root}
use Rattle.capn_walk.specs.View.{step_place, row_of}

-- The place of the first word of the content of a target. For a list of structs, that word is the tag. For a target
-- without content, the result is `root`.
abbrev pub begin : Target → Place
begin (targets.Content s w shape pads) = record { segment = s; word = w }
begin _ = root

-- The target `found` of a pointer, or `Nil` if the pointer has the fault `e`.
abbrev pub named_by : Result Target Fault → Target
named_by (Ok found) = found
named_by (Err e) = targets.Nil

-- The place to which step `i` leads from a target: slot `i`, element `i`, or the first word of row `i`.
abbrev pub step_at : Target → ℕ → Place
step_at (targets.Content s w (shapes.Rows n a b span) pads) i =
    begin (row_of (targets.Content s w (shapes.Rows n a b span) pads) i)
step_at found i = step_place found i

-- The target to which step `i` leads from a target in the message `m`: the target of the pointer in slot `i` or in
-- element `i`, or row `i` itself.
abbrev pub step_to : List (List ℕ) → Target → ℕ → Target
step_to m (targets.Content s w (shapes.Rows n a b span) pads) i =
    row_of (targets.Content s w (shapes.Rows n a b span) pads) i
step_to m found i = named_by (target m (step_place found i))
