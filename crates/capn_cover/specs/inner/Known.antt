-- Words that are known to be of a part: covering them once more by that part needs no comparison.
use Rattle.std.specs.Prelude.{◌≡◌, ◌≢◌, ℕ, ◌<◌, List, [], ◌∷◌, length, slice_index_or, nat_lt, Bool, not, ◌&&◌, ◌||◌, ⊤}
use Rattle.capn_words.specs.Message.{IsPlace}
use Rattle.capn_words.specs.declared.space.Place.{Place}
use Rattle.capn_target.specs.Target.{target}
use Rattle.capn_cover.specs.declared.covered.Covered.{Covered}
use Rattle.capn_cover.specs.declared.part.Part.{Part}
use Rattle.capn_cover.specs.Numbers.{number}
use Rattle.capn_cover.specs.Parts.{part, same_part}
use Rattle.capn_cover.specs.Covers.{Covering, covers, unreached}
use Rattle.capn_cover.specs.inner.Laid.{IsFollowed}

module _ (m : List (List ℕ)) where
  -- the word `x` is known to be of the part: something covers it, and it is an overlap already, or the first that
  -- covers it is the part
  pub record IsKnown (by : Part) (x : Covered) : Type 0 where
    pub some : x.times ≢ 0
    pub same : (x.overlap || not (same_part (part m x.slot x.role) by)) ≡ x.overlap

  -- each word of the coverings is known to be of the part that covers it there
  abbrev pub AreKnown : List Covering → List Covered → Type 0
  AreKnown [] cells = ⊤
  AreKnown (c ∷ cs) cells =
      (c.word < length cells → IsKnown (part m c.slot c.role) (slice_index_or cells c.word unreached))
      × AreKnown cs cells

  -- The words of each slot that is followed are known together: all words that a visit of the slot covers are. The
  -- root's slot is followed before it is visited.
  pub record AreKnownTogether (cells : List Covered) : Type 0 where
    pub each : (at : Place) → IsPlace m at → 0 < number m at → IsFollowed (number m at) cells
        → AreKnown (covers m at (target m at)) cells

-- the slot with the given number is followed, and is not the root's, so it has been visited before
abbrev pub is_repeated : (slot : ℕ) → List Covered → Bool
is_repeated slot cells = nat_lt 0 slot && (slice_index_or cells slot unreached).is_followed
