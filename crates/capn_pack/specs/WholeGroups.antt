-- The complete groups at the front of some bytes, up to a maximum of words. (Our own.)
use Rattle.std.specs.Prelude.{ℕ, ◌≡◌, ◌+◌, ◌<◌, ◌≤◌, ◌++◌, List, [], length, take, drop}
use Rattle.std.specs.List.{AllByRecursion}
use Rattle.capn_pack.specs.Packed.{Group, IsGroup, texts, contents, word_count}
use Rattle.capn_pack.specs.UnpackRefusal.{IsCut, IsTooLong}
use Rattle.capn_pack.specs.declared.whole_groups.Next.{Next}
use Rattle.capn_pack.specs.declared.whole_groups.Next.TheVariants as nexts

-- The greatest number of bytes of a group: a tag, a word, a count and 255 words.
abbrev pub most_group : ℕ
most_group = 2050

-- `rest` fits the given `Next`, if `room` words are left of the maximum. For `End`, `rest` is empty. For `Cut`, `rest`
-- ends within its first group. For `TooLong`, the first group of `rest` has more than `room` words.
abbrev pub StandsNext : Next → ℕ → List ℕ → Type 0
StandsNext nexts.End room rest = rest ≡ []
StandsNext nexts.Cut room rest = IsCut room rest × (length rest < most_group)
StandsNext nexts.TooLong room rest = IsTooLong room rest

-- The first `taken` bytes of `bytes` are complete groups with `words` words in all, at most `max`. The groups' words,
-- appended to `old`, give `new`. `next` says what follows the groups, by `StandsNext`.
pub record UnpacksSome (bytes : List ℕ) (max : ℕ) (old new : List ℕ) (taken words : ℕ) (next : Next) : Type 0 where
  pub groups : List Group
  pub each : AllByRecursion IsGroup groups
  pub inside : taken ≤ length bytes
  pub text : take taken bytes ≡ texts groups
  pub content : new ≡ old ++ contents groups
  pub counted : words ≡ word_count groups
  pub left : ℕ
  pub fits : words + left ≡ max
  pub stops : StandsNext next left (drop taken bytes)

-- `new` is `old` and then the words of some complete groups at the front of `bytes`. The groups have at most `max`
-- words.
pub record AppendsSome (bytes : List ℕ) (max : ℕ) (old new : List ℕ) : Type 0 where
  pub groups : List Group
  pub rest : List ℕ
  pub each : AllByRecursion IsGroup groups
  pub text : bytes ≡ texts groups ++ rest
  pub content : new ≡ old ++ contents groups
  pub fits : word_count groups ≤ max
