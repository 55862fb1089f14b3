-- The reasons why a text is not unpacked: it is no packed text, or it packs more words than the maximum. (Our own.)
use Rattle.std.specs.Prelude.{ℕ, ◌≡◌, ◌⊎◌, ◌+◌, ◌*◌, ◌<◌, ◌≤◌, ◌==◌, if◌then◌else◌, List, ◌++◌, length, slice_index}
use Rattle.std.specs.Prelude.{count_ones, ⊤}
use Rattle.std.specs.List.{AllByRecursion}
use Rattle.capn_pack.specs.declared.fault.UnpackFault.{UnpackFault}
use Rattle.capn_pack.specs.declared.fault.UnpackFault.TheVariants.{Memory, Cut, TooLong, Failed}
use Rattle.capn_pack.specs.Packed.{Group, IsGroup, group_text, group_words, texts, word_count}

-- The length in bytes of the head of a group, if the group's tag is `tag`. After the tag, the head has a count if `tag`
-- is 0, a word and a count if `tag` is 255, and otherwise the named bytes.
abbrev pub head_len : ℕ → ℕ
head_len tag = if tag == 0 then 2 else (if tag == 255 then 10 else 1 + count_ones tag)

-- The head of the group at the front of `rest` is complete.
abbrev pub HasHead : List ℕ → Type 0
HasHead rest = head_len (slice_index rest 0) ≤ length rest

-- The number of words that the head of the group at the front of `rest` gives.
abbrev pub words_at : List ℕ → ℕ
words_at rest =
    let tag = slice_index rest 0 in
    if tag == 0 then 1 + slice_index rest 1 else (if tag == 255 then 1 + slice_index rest 9 else 1)

-- The number of bytes of the group at the front of `rest`, with its head. The head gives this number.
abbrev pub len_at : List ℕ → ℕ
len_at rest =
    let tag = slice_index rest 0 in
    if tag == 255 then 10 + 8 * slice_index rest 9 else head_len tag

-- `rest` is not empty, and ends within its first group. Either the head of the group is incomplete, or the head gives
-- at most `room` words and more bytes than `rest` has.
abbrev pub IsCut : ℕ → List ℕ → Type 0
IsCut room rest = (0 < length rest)
    × ((length rest < head_len (slice_index rest 0)) ⊎ ((words_at rest ≤ room) × (length rest < len_at rest)))

-- The group at the front of `rest` has a complete head, which gives more than `room` words.
abbrev pub IsTooLong : ℕ → List ℕ → Type 0
IsTooLong room rest = (0 < length rest) × HasHead rest × (room < words_at rest)

-- The first `at` bytes of the text `b` are complete groups, with at most `max` words in all. `Fault` holds of the
-- number `left` of words that remain of `max`, and of the bytes `rest` after the groups.
pub record Stands (Fault : ℕ → List ℕ → Type 0) (b : List ℕ) (max at : ℕ) : Type 0 where
  pub groups : List Group
  pub rest : List ℕ
  pub each : AllByRecursion IsGroup groups
  pub text : b ≡ texts groups ++ rest
  pub offset : at ≡ length (texts groups)
  pub left : ℕ
  pub counted : left + word_count groups ≡ max
  pub fault : Fault left rest

-- `rest` begins with a complete group of at most `room` words.
pub record StartsWithin (rest : List ℕ) (room : ℕ) : Type 0 where
  pub group : Group
  pub more : List ℕ
  pub is_group : IsGroup group
  pub text : rest ≡ group_text group ++ more
  pub fits : group_words group ≤ room

-- The text `b` may be refused with the given fault if at most `max` words are allowed. `Memory` is possible for every
-- `b`, and `Failed` for none.
abbrev pub IsUnpackRefused : List ℕ → ℕ → UnpackFault → Type 0
IsUnpackRefused b max Memory = ⊤
IsUnpackRefused b max (Cut at) = Stands IsCut b max at
IsUnpackRefused b max (TooLong at) = Stands IsTooLong b max at
IsUnpackRefused b max Failed = ⊥
