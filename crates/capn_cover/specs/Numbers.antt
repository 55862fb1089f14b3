-- The numbers of a message's words: the words of all segments are counted from 0, segment by segment. (Our own.)
use Rattle.std.specs.Prelude.{◌≡◌, ℕ, suc, ◌+◌, ◌-◌, ◌<◌, nat_lt, List, [], ◌∷◌, length, take, slice_index}
use Rattle.std.specs.Prelude.{Option, Some, None, if◌then◌else◌}
use Rattle.capn_words.specs.Message.{total}
use Rattle.capn_words.specs.declared.space.Place.{Place}

-- the number of the word at a place: how many words of the message lie before it
abbrev pub number : List (List ℕ) → Place → ℕ
number message at = total (take at.segment message) + at.word

-- the place of the word with the number `n` in the segments, of which the first is segment `s`, or `None` if there is
-- no such word
abbrev pub place_from : (s : ℕ) → List (List ℕ) → (n : ℕ) → Option Place
place_from s [] n = None
place_from s (ws ∷ m) n =
    if nat_lt n (length ws) then Some (record { segment = s; word = n }) else place_from (suc s) m (n - length ws)

-- element `s` of `before` is the number of words of `message` before segment `s`, for each segment of `message`
pub record CountsBefore (message : List (List ℕ)) (before : List ℕ) : Type 0 where
  pub count : length before ≡ length message
  pub each : (s : ℕ) → s < length message → slice_index before s ≡ total (take s message)
