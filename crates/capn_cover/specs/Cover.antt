-- The cover of a message. (Our own.)
use Rattle.std.specs.Prelude.{◌≡◌, ℕ, ◌<◌, List, length, slice_index_or}
use Rattle.std.specs.List.{sum_by}
use Rattle.capn_words.specs.Message.{total}
use Rattle.capn_walk.specs.Accepted.{IsAccepted}
use Rattle.capn_walk.specs.Limits.{Bounds}
use Rattle.capn_cover.specs.declared.covered.Covered.{Covered}
use Rattle.capn_cover.specs.Covers.{coverings, cover_at, unreached}

-- how often all words together are covered
abbrev pub all_times : List Covered → ℕ
all_times words = sum_by (λ (c : Covered). c.times) words

-- `message` is accepted, and `words` has one item for each word of its segments, in order: what the coverings of the
-- message make of that word
pub record IsCover (message : List (List ℕ)) (limits : Bounds) (words : List Covered) : Type 0 where
  pub accepted : IsAccepted message limits
  pub each : length words ≡ total message
  pub is : (w : ℕ) → w < total message
      → slice_index_or words w unreached ≡ cover_at message (coverings message limits) w
