-- The search for a visit by its number.
use Rattle.std.specs.Prelude.{◌-◌, ◌==◌, Option, Some, None, Result, if◌then◌else◌}
use Rattle.capn_words.specs.declared.space.Place.{Place}
use Rattle.capn_target.specs.declared.target.Target.{Target}
use Rattle.capn_target.specs.declared.target.Fault.{Fault}
use Rattle.capn_path.specs.declared.visit.Numbered.{Numbered}

-- the place `at` if no visits are left before the visit that `aim` counts down to, else `None`
abbrev pub found_at : Numbered → Place → Result Target Fault → Option Place
found_at aim at named = if aim.left == 0 then Some at else None

-- the aim with one visit fewer before the visit that `aim` counts down to
abbrev pub one_less : Numbered → Numbered
one_less aim = record { left = aim.left - 1 }
