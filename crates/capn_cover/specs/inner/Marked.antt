-- Words that are marked as cut, object by object.
use Rattle.std.specs.Prelude.{◌≡◌, ℕ, ◌-◌, ◌%◌, ◌<◌, ◌==◌, nat_lt, false, true, List, length}
use Rattle.std.specs.Prelude.{slice_index_or, if◌then◌else◌}
use Rattle.capn_cover.specs.declared.covered.Covered.{Covered}
use Rattle.capn_cover.specs.Cuts.{is_in, is_behind, is_cut}
use Rattle.capn_cover.specs.Covers.{unreached}

-- the word `x` at index `i` of a row with `a` data words, marked if it belongs to the visit of the slot. The row keeps
-- `words` data words and `slots` slots.
abbrev pub marked_in : (slot a words slots i : ℕ) → Covered → Covered
marked_in slot a words slots i x =
    if x.slot == slot then record x { cut = is_behind a words slots x.role i } else x

-- `new` are the items `old`, of which the `n` items from the number `first` on, in rows of `step` words, are marked
pub record AreMarkedRows (slot a words slots step first n : ℕ) (old new : List Covered) : Type 0 where
  pub count : length new ≡ length old
  pub each : (v : ℕ) → v < length old
      → slice_index_or new v unreached
      ≡ (if is_in first n v then marked_in slot a words slots ((v - first) % step) (slice_index_or old v unreached)
      else slice_index_or old v unreached)

module _ (message : List (List ℕ)) where
  -- the word `x`, whose number is `v`, marked if canonical bytes leave it out of the object to which it belongs
  abbrev pub marked : (v : ℕ) → Covered → Covered
  marked v x = record x { cut = is_cut message x.slot x.role v }

  -- `new` are the items `old`, of which those that belong to the visit of the slot are marked
  pub record AreMarkedOf (slot : ℕ) (old new : List Covered) : Type 0 where
    pub count : length new ≡ length old
    pub each : (v : ℕ) → v < length old
        → slice_index_or new v unreached
        ≡ (if (slice_index_or old v unreached).slot == slot then marked v (slice_index_or old v unreached)
        else slice_index_or old v unreached)

  -- `new` are the items `old`, of which those that belong to the visit of one of the first `n` slots are marked
  pub record AreMarkedTo (n : ℕ) (old new : List Covered) : Type 0 where
    pub count : length new ≡ length old
    pub each : (v : ℕ) → v < length old
        → slice_index_or new v unreached
        ≡ (if nat_lt (slice_index_or old v unreached).slot n then marked v (slice_index_or old v unreached)
        else slice_index_or old v unreached)

  -- `new` are the items `old`, all of which are marked
  pub record AreMarked (old new : List Covered) : Type 0 where
    pub count : length new ≡ length old
    pub each : (v : ℕ) → v < length old
        → slice_index_or new v unreached ≡ marked v (slice_index_or old v unreached)

-- no word that belongs to the visit of the slot is marked
abbrev pub AreUnmarkedOf : (slot : ℕ) → List Covered → Type 0
AreUnmarkedOf slot cells = (v : ℕ) → v < length cells → (slice_index_or cells v unreached).slot ≡ slot
    → (slice_index_or cells v unreached).cut ≡ false

-- no word is marked, and each belongs to the visit of a word that is followed
pub record AreUnmarked (cells : List Covered) : Type 0 where
  pub uncut : (v : ℕ) → v < length cells → (slice_index_or cells v unreached).cut ≡ false
  pub slots : (v : ℕ) → v < length cells
      → (slice_index_or cells (slice_index_or cells v unreached).slot unreached).is_followed ≡ true
