-- Coverings that are laid into a list with one item for each word, one covering after another.
use Rattle.std.specs.Prelude.{◌≡◌, ℕ, zero, suc, ◌+◌, ◌^◌, ◌<◌, ◌≤◌, ◌==◌, ◌||◌, Bool, true, false, List, [], ◌∷◌, ◌++◌}
use Rattle.std.specs.Prelude.{length, set}
use Rattle.std.specs.Prelude.{slice_index, slice_index_or, Result, Ok, Err, if◌then◌else◌}
use Rattle.std.specs.List.{flat_map}
use Rattle.capn_words.specs.declared.space.Place.{Place}
use Rattle.capn_target.specs.declared.target.Target.{Target}
use Rattle.capn_target.specs.declared.target.Target.TheVariants as targets
use Rattle.capn_target.specs.declared.target.Shape.{Shape}
use Rattle.capn_target.specs.declared.target.Fault.{Fault}
use Rattle.capn_target.specs.Target.{target}
use Rattle.capn_walk.specs.View.{slots_below}
use Rattle.capn_cover.specs.declared.covered.Covered.{Covered}
use Rattle.capn_cover.specs.declared.covered.Role.{Role}
use Rattle.capn_cover.specs.Parts.{differs}
use Rattle.capn_cover.specs.Covers.{Covering, covers, is_read, unreached}

-- the holder of a word with the given holder, after a visit of the slot covers the word in the role
abbrev pub holder_after : (is_followed : Bool) → (holder slot : ℕ) → Role → ℕ
holder_after is_followed holder slot role =
    if is_followed then holder else if is_read role then slot else holder

-- the word `x`, after a visit of it as a slot covers words
abbrev pub followed : Covered → Covered
followed x = record x { is_followed = true }

-- the items after a visit of the slot with the given number covers words
abbrev pub followed_in : (slot : ℕ) → List Covered → List Covered
followed_in slot cells = set cells slot (followed (slice_index_or cells slot unreached))

-- the slot with the given number is marked as followed
abbrev pub IsFollowed : (slot : ℕ) → List Covered → Type 0
IsFollowed slot cells = (slice_index_or cells slot unreached).is_followed ≡ true

module _ (m : List (List ℕ)) where
  -- the word `x`, which nothing has covered, after it is covered
  abbrev pub first_covered : (slot : ℕ) → Role → Covered → Covered
  first_covered slot role x = record {
    times = 1;
    slot = slot;
    holder = holder_after x.is_followed x.holder slot role;
    role = role;
    overlap = false;
    is_followed = x.is_followed;
    cut = false;
  }

  -- the word `x`, which something has covered, after it is covered again
  abbrev pub covered_again : (slot : ℕ) → Role → Covered → Covered
  covered_again slot role x = record x {
    times = x.times + 1;
    holder = holder_after x.is_followed x.holder slot role;
    overlap = x.overlap || differs m x.slot x.role slot role;
  }

  -- the word `x` after it is covered once more
  abbrev pub once_more : (slot : ℕ) → Role → Covered → Covered
  once_more slot role x = if x.times == 0 then first_covered slot role x else covered_again slot role x

  -- the items after a covering by the visit of the slot is laid into them, which are marked already as that visit marks
  -- its slot
  abbrev pub touched_in : (word slot : ℕ) → Role → List Covered → List Covered
  touched_in word slot role cells = set cells word (once_more slot role (slice_index_or cells word unreached))

  -- the items after the covering `c` is laid into them
  abbrev pub touched : Covering → List Covered → List Covered
  touched c cells = touched_in c.word c.slot c.role (followed_in c.slot cells)

  -- the items after the coverings are laid into them, one after another
  abbrev pub laid : List Covering → List Covered → List Covered
  laid [] cells = cells
  laid (c ∷ cs) cells = laid cs (touched c cells)

-- the word `x`, with no mark that it is cut
abbrev pub uncut : Covered → Covered
uncut x = record x { cut = false }

-- no item is so often covered that `n` times more pass what 32 bits hold
abbrev pub HasRoom : ℕ → List Covered → Type 0
HasRoom n cells = (w : ℕ) → (slice_index_or cells w unreached).times + n < 2 ^ 32

-- segment `s` is the last segment before which there are at most `n` words
pub record IsLastBefore (before : List ℕ) (n s : ℕ) : Type 0 where
  pub exists : s < length before
  pub low : slice_index before s ≤ n
  pub high : s + 1 < length before → n < slice_index before (s + 1)

-- the slot at `at` leads to content, through a landing pad of `pads` words
pub record Leads (m : List (List ℕ)) (at : Place) (pads : ℕ) : Type 0 where
  pub segment : ℕ
  pub start : ℕ
  pub shape : Shape
  pub is : target m at ≡ Ok (targets.Content segment start shape pads)

-- ---- the coverings of a slot, by its target and the slots below it

-- the places of the slots below a target, or no places for a fault
abbrev pub below : Result Target Fault → List Place
below (Ok t) = slots_below t
below (Err e) = []

module _ (m : List (List ℕ)) where
  -- the words that the visit of the slot at a place and the visits of all slots below it cover, at most `d` objects
  -- deep
  unfoldable pub cover_below : ℕ → Place → List Covering
  cover_below zero at = []
  cover_below (suc d) at = covers m at (target m at) ++ flat_map (cover_below d) (below (target m at))

  -- the words that the visits of the slots at `ps` and of all slots below them cover, one slot after another
  abbrev pub cover_of : ℕ → List Place → List Covering
  cover_of d ps = flat_map (cover_below d) ps
