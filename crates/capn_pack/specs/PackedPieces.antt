-- A packed text that is unpacked piece by piece. (Our own.)
use Rattle.std.specs.Prelude.{ℕ, ◌≡◌, ◌+◌, ◌-◌, ◌^◌, ◌++◌, List, Bool, false, length, min}
use Rattle.std.specs.List.{AllByRecursion}
use Rattle.capn_pack.specs.Packed.{Group, IsGroup, group_text, texts, contents}

-- `rest` does not begin with a complete group.
abbrev pub NoGroupFirst : List ℕ → Type 0
NoGroupFirst rest = (group : Group) (more : List ℕ) → IsGroup group → rest ≡ group_text group ++ more → ⊥

-- `stream` is complete groups of `len` bytes in all, and then `rest`. `rest` begins with no complete group. The words
-- of the groups, appended to `old`, give `new`.
pub record Splits (stream rest old new : List ℕ) (len : ℕ) : Type 0 where
  pub groups : List Group
  pub each : AllByRecursion IsGroup groups
  pub text : stream ≡ texts groups ++ rest
  pub content : new ≡ old ++ contents groups
  pub size : len ≡ length (texts groups)
  pub open_rest : NoGroupFirst rest

-- `new` is `old` and then the words of some complete groups at the front of `stream`.
pub record Begins (stream old new : List ℕ) : Type 0 where
  pub groups : List Group
  pub rest : List ℕ
  pub each : AllByRecursion IsGroup groups
  pub text : stream ≡ texts groups ++ rest
  pub content : new ≡ old ++ contents groups

-- The state of an unpacker: the bytes of the unfinished group, the offset in the stream at which the group begins, and
-- whether a call has returned an error.
pub record Held : Type 0 where
  pub rest : List ℕ
  pub offset : ℕ
  pub failed : Bool

-- The offset `len` bytes after `offset`, but at most the greatest number of 64 bits.
abbrev pub advanced : ℕ → ℕ → ℕ
advanced offset len = min (offset + len) (2 ^ 64 - 1)

-- `before.rest` and then `piece` are complete groups and then `after.rest`. The words of the groups, appended to `old`,
-- give `new`. The offset advances by the length of the groups (`advanced`). Neither state has failed.
pub record Feeds (before : Held) (piece old new : List ℕ) (after : Held) : Type 0 where
  pub len : ℕ
  pub split : Splits (before.rest ++ piece) after.rest old new len
  pub offset : after.offset ≡ advanced before.offset len
  pub was_good : before.failed ≡ false
  pub is_good : after.failed ≡ false
