-- An unfinished group that is continued by a piece, and the buffer for the bytes of the group.
use Rattle.std.specs.Prelude.{ℕ, ◌≡◌, ◌<◌, ◌≤◌, ◌++◌, List, length, take, Result, Ok, Err}
use Rattle.capn_pack.specs.Packed.{Group, IsGroup, group_text, group_bytes}
use Rattle.capn_pack.specs.PackedPieces.{Begins, NoGroupFirst, Splits}
use Rattle.capn_pack.specs.declared.unpack_group.TheConstants.{GROUP}
use Rattle.capn_pack.specs.declared.text_piece.TheConstants.{HELD}
use Rattle.capn_pack.specs.declared.text_piece.Fed.{Fed}
use Rattle.capn_pack.specs.declared.text_piece.Joined.{Joined}
use Rattle.capn_pack.specs.declared.text_piece.Joined.TheVariants.{Open, Whole}

-- The buffer `held` has the length `HELD`. Its first `len` bytes are fewer than `GROUP`, and begin with no complete
-- group.
abbrev pub IsHeld : List ℕ → ℕ → Type 0
IsHeld held len = (length held ≡ HELD) × (len < GROUP) × NoGroupFirst (take len held)

-- The unfinished group `rest` was continued by `piece`. Either the group is still unfinished, and `held` begins with
-- `rest ++ piece`. Or the first `at` bytes of `piece` completed the group, and its words were appended to `old`.
abbrev pub Joins : List ℕ → List ℕ → List ℕ → List ℕ → List ℕ → Joined → Type 0
Joins rest piece held old new (Open len) = (len < GROUP) × (take len held ≡ rest ++ piece)
    × NoGroupFirst (rest ++ piece) × (new ≡ old)
Joins rest piece held old new (Whole at) = (at ≤ length piece) × (group : Group) × IsGroup group
    × (rest ++ take at piece ≡ group_text group) × (new ≡ old ++ group_bytes group)

-- The result of unpacking `stream`. For `Ok`, `Splits` holds, and `held` begins with the bytes after the groups. For
-- `Err`, `stream` begins with a complete group, and the words of some first groups were appended to `old`.
abbrev pub FeedGives : {E : Type 0} → List ℕ → List ℕ → Result Fed E → List ℕ → List ℕ → Type 0
FeedGives stream old (Ok fed) held new = (fed.len < GROUP) × Splits stream (take fed.len held) old new fed.taken
FeedGives stream old (Err e) held new = Begins stream old new × (NoGroupFirst stream → ⊥)
