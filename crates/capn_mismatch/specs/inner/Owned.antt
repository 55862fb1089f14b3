-- A word of canonical bytes that is a pointer, a tag or the last word of a list of small numbers.
use Rattle.std.specs.Prelude.{ℕ, List, [], ◌∷◌}
use Rattle.capn_value.specs.Cost.{base}
use Rattle.capn_walk.specs.Visits.{visits}
use Rattle.capn_walk.specs.Accepted.{root}
use Rattle.capn_walk.specs.Limits.{Bounds}
use Rattle.capn_path.specs.Finds.{IsPassed}
use Rattle.capn_mismatch.specs.declared.word_kind.Owner.{Owner}
use Rattle.capn_mismatch.specs.Owner.{place}
use Rattle.capn_mismatch.specs.inner.Search.{owned, same}

-- The walk of the message with the only segment `words` visits a slot that owns `word`.
abbrev pub HasOwner : List ℕ → Bounds → ℕ → Type 0
HasOwner words limits word = (after : Owner)
    → IsPassed (words ∷ []) owned same (record { word = place word })
    (visits (words ∷ []) (base limits.tariff) limits.depth root) after → ⊥
