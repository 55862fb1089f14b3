-- Statements about texts with marks. `Says` is a property of such a text, for example that the text was added.
use Rattle.std.specs.Prelude.{◌≡◌, ◌≤◌, ℕ, Option, Some, None, ◌<◌, List, ◌++◌, length, take, slice_index}
use Rattle.capn_words.specs.Message.{total}
use Rattle.capn_words.specs.declared.space.Place.{Place}
use Rattle.capn_value.specs.Tree.{Tree}
use Rattle.capn_target.specs.declared.target.Target.{Target}
use Rattle.capn_value.specs.Cost.{height}
use Rattle.capn_walk.specs.Accepted.{root}
use Rattle.capn_walk.specs.ValueAt.{IsAt}
use Rattle.capn_walk.specs.ShownValue.{Shows}
use Rattle.capn_marks.specs.declared.marks.Marks.{Marks}
use Rattle.capn_marks.specs.Marked.{mark, byte_at, unmarked}
use Rattle.capn_marks.specs.MarkedPart.{at_root, led, marked_at, none_line}
use Rattle.capn_show.specs.declared.descent.Part.{Part}

-- Element `s` of `before` is the number of words of `m` before segment `s`, for each segment of `m`.
pub record CountsBefore (m : List (List ℕ)) (before : List ℕ) : Type 0 where
  pub count : length before ≡ length m
  pub each : (s : ℕ) → s < length m → slice_index before s ≡ total (take s m)

module _ (m : List (List ℕ)) where
  -- `Says` is true of the lines with `marks` of the value with the target `found`, the path `path` and the place `at`.
  abbrev pub IsThereMarked : Marks → List ℕ → Place → Target → (List ℕ → Type 0) → Type 0
  IsThereMarked marks path at found Says = (v : Tree) → Shows m found v
      → Says (mark marks (byte_at m marks at) path ++ unmarked m marks 0 path found v)

  -- `Says` is true of the lines with `marks` of the value at the path `numbers` from the root.
  abbrev pub IsPartMarked : Marks → List ℕ → (List ℕ → Type 0) → Type 0
  IsPartMarked marks numbers Says = (v : Tree) → IsAt m root v → Says (marked_at m marks numbers v)

  -- `numbers` lead from the root, whose value is `v`, to the part `p` with the path `path`, or nowhere if the part is
  -- `None`. The value of `p` is at most as high as `v`.
  abbrev pub IsLed : List ℕ → Tree → List ℕ → Option Part → Type 0
  IsLed numbers v path (Some p) = (u : Tree)
      × (led m numbers (Some (at_root m v)) ≡ Some (record { at = p.at; found = p.found; value = u; path = path }))
      × Shows m p.found u
      × (height u ≤ height v)
  IsLed numbers v path None = led m numbers (Some (at_root m v)) ≡ None

  -- `Says` is true of the lines with `marks` of the part `p`, or of the line `none` if the part is `None`.
  abbrev pub IsLedMarked : Marks → List ℕ → Option Part → (List ℕ → Type 0) → Type 0
  IsLedMarked marks path (Some p) Says = IsThereMarked marks path p.at p.found Says
  IsLedMarked marks path None Says = Says (none_line marks)
