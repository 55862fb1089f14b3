-- The number of slots that the aim of a search leaves to be tested, and the reads that a search without a find makes.
use Rattle.std.specs.Prelude.{◌≡◌, ℕ, ◌+◌, ◌*◌, ◌<◌, ◌≤◌, Option, None, Result}
use Rattle.capn_words.specs.declared.space.Place.{Place}
use Rattle.capn_target.specs.declared.target.Target.{Target}
use Rattle.capn_target.specs.declared.target.Fault.{Fault}

module _ {G F : Type 0} (finds : G → Place → Result Target Fault → Option F) (next : G → G) where
  -- each test that finds nothing lowers `left`, the number of tests that an aim leaves before the test with a find
  abbrev pub IsLowered : (G → ℕ) → Type 0
  IsLowered left =
      (aim : G) (at : Place) (named : Result Target Fault) → finds aim at named ≡ None → left (next aim) < left aim

  -- A search without a find leads from the aim `old` to the aim `new`, and raises the count of reads from `from` to
  -- `to`. The count grows by ten for each test by which `left` falls, less `spared`.
  abbrev pub IsSpared : ℕ → G → G → ℕ → ℕ → Type 0
  IsSpared spared old new from to =
      (left : G → ℕ) → IsLowered left → to + 10 * left new + spared ≤ from + 10 * left old
