-- A buffer of words and holes, as a list in which `None` is a hole.
use Rattle.std.specs.Prelude.{◌≡◌, ℕ, zero, suc, ◌*◌, ◌/◌, ◌%◌, ◌≤◌, ◌==◌, List, [], ◌∷◌, length, take, drop, map, ⊤}
use Rattle.std.specs.Prelude.{slice_get, slice_index, Bool, true, false, Option, Some, None}
use Rattle.std.specs.Int.{bit_at}
use Rattle.capn_words.specs.Message.{word_number, AreBytes}

-- Item `at` of the list `cs` is a hole. (Our own.)
abbrev pub IsHole : List (Option ℕ) → ℕ → Type 0
IsHole cs at = slice_get cs at ≡ Some None

-- No item of the list is a hole. (Our own.)
abbrev pub IsWhole : List (Option ℕ) → Type 0
IsWhole [] = ⊤
IsWhole (None ∷ cs) = ⊥
IsWhole (Some w ∷ cs) = IsWhole cs

-- The words `ws`, as a list without holes. (Our own.)
abbrev pub whole : List ℕ → List (Option ℕ)
whole ws = map (λ (w : ℕ). Some w) ws

-- The words of the list, in sequence. The holes are left out. (Our own.)
abbrev pub filled : List (Option ℕ) → List ℕ
filled [] = []
filled (None ∷ cs) = filled cs
filled (Some w ∷ cs) = w ∷ filled cs

-- True if the mark of word `i` is set. Each number of `marks` has the marks of 64 words. (Our own.)
abbrev pub is_marked : List ℕ → ℕ → Bool
is_marked marks i = bit_at (slice_index marks (i / 64)) (i % 64) == 1

-- The marks of the `n` words from word `i` on, as stored in `marks`. (Our own.)
unfoldable pub flags : ℕ → ℕ → List ℕ → List Bool
flags i zero marks = []
flags i (suc n) marks = is_marked marks i ∷ flags (suc i) n marks

-- A hole if the mark is `true`, else the word `w`. (Our own.)
abbrev pub cell : Bool → ℕ → Option ℕ
cell true w = None
cell false w = Some w

-- The list of words and holes that the marks `hs` and the bytes `bs` represent. Each mark stands for the next 8 bytes,
-- which are a word if the mark is `false`. Bytes after those of the last mark stand for nothing. (Our own.)
unfoldable pub cells : List Bool → List ℕ → List (Option ℕ)
cells [] bs = []
cells (h ∷ hs) bs = cell h (word_number (take 8 bs)) ∷ cells hs (drop 8 bs)

-- The list of words and holes that the stored `marks` and the bytes `bs` represent. (Our own.)
abbrev pub patched : List ℕ → List ℕ → List (Option ℕ)
patched marks bs = cells (flags 0 (length bs / 8) marks) bs

-- The bytes `bs` form complete words, and `marks` has a mark for each of these words. No mark after the last word is
-- set. (Our own.)
pub record IsPatched (marks bs : List ℕ) : Type 0 where
  pub even : length bs % 8 ≡ 0
  pub room : length bs / 8 ≤ 64 * length marks
  pub clean : (i : ℕ) → length bs / 8 ≤ i → is_marked marks i ≡ false
  pub bytes : AreBytes bs
