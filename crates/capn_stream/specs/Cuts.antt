-- The segments that words are cut into at given ends.
use Rattle.std.specs.Prelude.{ℕ, ◌+◌, ◌-◌, ◌<◌, ◌≤◌, List, [], ◌∷◌, length, take, drop}
use Rattle.capn_words.specs.Message.{AreWords, most_segments, most_words}

-- The words from index `from` on, cut into segments at the given ends. The last segment has all words after the last
-- end.
abbrev pub cut : ℕ → List ℕ → List ℕ → List (List ℕ)
cut from [] ws = drop from ws ∷ []
cut from (end ∷ ends) ws = take (end - from) (drop from ws) ∷ cut end ends ws

-- the numbers `from`, then `ends`, and then `len` never decrease
abbrev pub AreRising : ℕ → List ℕ → ℕ → Type 0
AreRising from [] len = from ≤ len
AreRising from (end ∷ ends) len = (from ≤ end) × AreRising end ends len

-- `ends` cut the words `ws` into a message
pub record AreEnds (ends ws : List ℕ) : Type 0 where
  pub few : length ends < most_segments
  pub rising : AreRising 0 ends (length ws)
  pub room : length ws ≤ most_words
  pub each : AreWords ws

-- the ends of segments of the given sizes, if the first begins at word `from`
abbrev pub ends_from : ℕ → List ℕ → List ℕ
ends_from from [] = []
ends_from from (size ∷ sizes) = (from + size) ∷ ends_from (from + size) sizes
