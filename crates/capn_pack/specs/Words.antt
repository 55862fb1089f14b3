-- Words as numbers, the least significant byte first. (Page: messages.)
use Rattle.std.specs.Prelude.{ℕ, ◌≡◌, ◌^◌, ◌<◌, List, slice_index}
use Rattle.std.specs.List.{flat_map, AllByRecursion}
use Rattle.std.specs.Int.{w64, to_le_bytes}

-- The bytes of the words `ws`, eight for each, the least significant first.
abbrev pub bytes : List ℕ → List ℕ
bytes ws = flat_map (to_le_bytes w64) ws

-- Each number of `ws` fits a word.
abbrev pub AreWords : List ℕ → Type 0
AreWords ws = AllByRecursion (λ w. w < 2 ^ 64) ws

-- Each number of `bs` fits a byte.
abbrev pub AreBytes : List ℕ → Type 0
AreBytes bs = (i : ℕ) → slice_index bs i < 2 ^ 8

-- `bs` are the bytes of some words.
pub record HasWords (bs : List ℕ) : Type 0 where
  pub words : List ℕ
  pub each : AreWords words
  pub bytes : bytes words ≡ bs
