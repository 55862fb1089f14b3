-- A packed input of which a prefix was read, and the words that this prefix unpacks to.
use Rattle.std.specs.Prelude.{◌≡◌, ◌⊎◌, ℕ, ◌+◌, List, [], ◌++◌, length, Bool, true, false}
use Rattle.std.specs.List.{AllByRecursion}
use Rattle.capn_pack.specs.Packed.{Group, IsGroup, texts, contents, word_count}
use Rattle.capn_pack.specs.UnpackRefusal.{IsCut, IsTooLong, Stands}

-- `seen` is complete groups, which end at the offset `at`, and then `held`, which is empty or an unfinished group. The
-- groups unpack to `words`. Of `most` words in all, `left` more words may be unpacked.
pub record Holds (most : ℕ) (seen words held : List ℕ) (at left : ℕ) : Type 0 where
  pub groups : List Group
  pub each : AllByRecursion IsGroup groups
  pub text : seen ≡ texts groups ++ held
  pub content : words ≡ contents groups
  pub offset : at ≡ length (texts groups)
  pub counted : left + word_count groups ≡ most
  pub begun : (held ≡ []) ⊎ IsCut left held

-- If the last argument is false, `Holds` states the words that `seen` unpacks to. If the last argument is true, the
-- group at the offset `at` of `seen` has too many words.
abbrev pub IsPending : ℕ → List ℕ → List ℕ → List ℕ → ℕ → ℕ → Bool → Type 0
IsPending most seen words held at left false = Holds most seen words held at left
IsPending most seen words held at left true = Stands IsTooLong seen most at
