-- The rules of the shuffle tables. For each lane of a vector, a rule gives the lane that is read, or 128 for a zero.
use Rattle.std.specs.Prelude.{ℕ, ◌+◌, ◌/◌, ◌%◌, ◌==◌, if◌then◌else◌, List, [], ◌∷◌, ◌++◌, replicate, suc, zero}

-- For each of `n` bytes of a word: the next lane, counted from `next`, if the tag names the byte, otherwise 128.
abbrev pub spread_places : ℕ → ℕ → ℕ → List ℕ
spread_places zero tag next = []
spread_places (suc n) tag next =
    if tag % 2 == 1 then next ∷ spread_places n (tag / 2) (next + 1) else 128 ∷ spread_places n (tag / 2) next

-- The row of the table for `tag`. The row moves the first lanes to the positions of the bytes that `tag` names.
abbrev pub spread_row : ℕ → List ℕ
spread_row tag = spread_places 8 tag 0 ++ replicate 8 128

-- The lanes of the bytes that `tag` names, among `n` bytes of which the first is in lane `at`. Entries of 128 follow
-- those lanes, so that there are `n` entries.
abbrev pub gather_places : ℕ → ℕ → ℕ → List ℕ
gather_places zero tag at = []
gather_places (suc n) tag at =
    if tag % 2 == 1 then at ∷ gather_places n (tag / 2) (at + 1) else gather_places n (tag / 2) (at + 1) ++ 128 ∷ []

-- The row of the table for `tag`. The row moves the bytes that `tag` names to the lanes from lane 1 on. Lane 0 is for
-- the tag.
abbrev pub gather_row : ℕ → List ℕ
gather_row tag = 128 ∷ gather_places 8 tag 0 ++ replicate 7 128
