-- The visits of a walk, in preorder.
use Rattle.std.specs.Prelude.{ℕ, zero, suc, ◌+◌, ◌==◌, List, [], ◌∷◌, ◌++◌, Result, Ok, Err, if◌then◌else◌}
use Rattle.std.specs.List.{flat_map}
use Rattle.capn_words.specs.declared.space.Place.{Place}
use Rattle.capn_words.specs.declared.pointer.Width.TheVariants.{W0, Link}
use Rattle.capn_target.specs.declared.target.Target.{Target}
use Rattle.capn_target.specs.declared.target.Target.TheVariants as targets
use Rattle.capn_target.specs.declared.target.Shape.{Shape}
use Rattle.capn_target.specs.declared.target.Shape.TheVariants as shapes
use Rattle.capn_target.specs.declared.target.Fault.{Fault}
use Rattle.capn_target.specs.declared.target.Fault.TheVariants as faults
use Rattle.capn_target.specs.Target.{content_words, target}

-- one visit: the place of the slot, and its price or its fault
pub data Visit : Type 0 where
  pays : Place → ℕ → Visit
  fails : Place → Fault → Visit

-- the price of an object, not counting landing pads: the sum of `base` and the object's size in words. An element or a
-- row of size 0 counts as a word. (Our own.)
abbrev pub price : (base : ℕ) → Shape → ℕ
price base (shapes.Node data_words pointers) = base + data_words + pointers
price base (shapes.Many W0 n) = base + n
price base (shapes.Many width n) = base + content_words width n
price base (shapes.Rows n data_words pointers span) = base + 1 + span + (if data_words + pointers == 0 then n else 0)

-- `n` consecutive places, from word `w` of segment `s` on
abbrev pub places : (segment word n : ℕ) → List Place
places s w zero = []
places s w (suc n) = (record { segment = s; word = w }) ∷ places s (w + 1) n

-- the places of the slots of `n` consecutive rows from word `w` of segment `s` on, each with `data_words` data words
-- and `pointers` pointers
abbrev pub row_places : (segment word data_words pointers n : ℕ) → List Place
row_places s w data_words pointers zero = []
row_places s w data_words pointers (suc n) =
    places s (w + data_words) pointers ++ row_places s (w + data_words + pointers) data_words pointers n

-- the places of the slots of an object of the shape, whose content starts at word `start` of segment `s`
abbrev pub slots : (segment start : ℕ) → Shape → List Place
slots s start (shapes.Node data_words pointers) = places s (start + data_words) pointers
slots s start (shapes.Many Link n) = places s start n
slots s start (shapes.Many width n) = []
slots s start (shapes.Rows n data_words pointers span) = row_places s (start + 1) data_words pointers n

module _ (message : List (List ℕ)) (base : ℕ) where
  -- the visit of the slot at `at`, if the depth limit allows no content there
  abbrev pub last_visit : Place → Result Target Fault → List Visit
  last_visit at (Ok (targets.Content s start shape pads)) = fails at faults.TooDeep ∷ []
  last_visit at (Ok found) = pays at 0 ∷ []
  last_visit at (Err e) = fails at e ∷ []

  -- the visit of the slot at `at`, and then the visits of the slots below it, which `below` gives
  abbrev pub visit : (Place → List Visit) → Place → Result Target Fault → List Visit
  visit below at (Ok (targets.Content s start shape pads)) =
      pays at (price base shape + pads) ∷ flat_map below (slots s start shape)
  visit below at found = last_visit at found

  -- the visits of the slot at a place and of all slots below it, at most `d` objects deep
  unfoldable pub visits : ℕ → Place → List Visit
  visits zero at = last_visit at (target message at)
  visits (suc d) at = visit (visits d) at (target message at)

  -- ---- read to here for the theorem

  -- the visits of the slots at `ps` and of all slots below them, one slot after another
  abbrev pub visits_of : ℕ → List Place → List Visit
  visits_of d ps = flat_map (visits d) ps
