-- The results of reading one group of a packed text.
use Rattle.std.specs.Prelude.{ℕ, ◌≡◌, ◌<◌, ◌≤◌, ◌++◌, List, length, take, Result, Ok, Err}
use Rattle.capn_pack.specs.Packed.{Group, IsGroup, group_text, group_bytes, group_words}
use Rattle.capn_pack.specs.UnpackRefusal.{IsCut, IsTooLong, len_at, words_at}
use Rattle.capn_scratch.specs.declared.group.Size.{Size}
use Rattle.capn_scratch.specs.declared.group.Stop.{Stop}
use Rattle.capn_scratch.specs.declared.group.Stop.TheVariants as stops

-- If the result is `Ok`, `size` is the size of the group at the front of `rest`. The group is complete, has at least
-- two bytes, and unpacks to 1 to `room` words. If the result is `Cut` or `TooLong`, it is true of the group (`IsCut`,
-- `IsTooLong`).
abbrev pub SizeGives : List ℕ → ℕ → Result Size Stop → Type 0
SizeGives rest room (Ok size) =
    (size.bytes ≡ len_at rest) × (size.words ≡ words_at rest) × (1 < size.bytes) × (size.bytes ≤ length rest)
    × (0 < size.words) × (size.words ≤ room)
SizeGives rest room (Err stops.Cut) = IsCut room rest
SizeGives rest room (Err stops.TooLong) = IsTooLong room rest

-- `rest` begins with a group of `taken` bytes that unpacks to `count` words. `new` is `old` followed by the bytes of
-- these words.
pub record Takes (rest : List ℕ) (taken count : ℕ) (old new : List ℕ) : Type 0 where
  pub group : Group
  pub is_group : IsGroup group
  pub within : taken ≤ length rest
  pub text : take taken rest ≡ group_text group
  pub counted : count ≡ group_words group
  pub content : new ≡ old ++ group_bytes group
