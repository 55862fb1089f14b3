-- The one text that this packer writes for given words, although other texts pack the same words. (Our own.)
use Rattle.std.specs.Prelude.{ℕ, ◌≡◌, ◌+◌, ◌<◌, ◌≤◌, ◌==◌, if◌then◌else◌, List, [], ◌∷◌, length, replicate, take, drop}
use Rattle.std.specs.Prelude.{suc, zero, ⊤}
use Rattle.capn_pack.specs.Packed.{tag_of, Group, IsGroup, texts, contents}
use Rattle.capn_pack.specs.Packed.Group.{Zeros, Named, Raw}

-- The number of zeros among some bytes.
abbrev pub zero_count : List ℕ → ℕ
zero_count [] = 0
zero_count (x ∷ xs) = (if x == 0 then 1 else 0) + zero_count xs

-- The word `word` is dense: it has at most one zero byte, so a tag would save nothing on it.
abbrev pub IsDense : List ℕ → Type 0
IsDense word = (length word ≡ 8) × (zero_count word ≤ 1)

-- `bs` are the bytes of `n` words, each of them dense.
abbrev pub AllDense : ℕ → List ℕ → Type 0
AllDense zero bs = bs ≡ []
AllDense (suc n) bs = IsDense (take 8 bs) × AllDense n (drop 8 bs)

-- The packer chooses the given group if the words after the group have the bytes `bs`.
abbrev pub IsChoice : Group → List ℕ → Type 0
-- a zero group continues as far as zero words do, up to 255 more
IsChoice (Zeros more) bs = more < 255 → take 8 bs ≡ replicate 8 0 → ⊥
-- a tag names the bytes that are not zero, and no zero byte
IsChoice (Named tag word) bs = tag ≡ tag_of word
-- the first word of a raw group has no zero byte, and the group continues as far as dense words do, up to 255 more
IsChoice (Raw word count more) bs = (tag_of word ≡ 255) × AllDense count more × (count < 255 → IsDense (take 8 bs) → ⊥)

-- `IsGroup` holds of each group of the row, and the packer chooses each group if the words of the later groups follow
-- it.
abbrev pub IsChosenRow : List Group → Type 0
IsChosenRow [] = ⊤
IsChosenRow (g ∷ gs) = IsGroup g × IsChoice g (contents gs) × IsChosenRow gs

-- `b` is the text that the packer writes for the words with the bytes `bs`.
pub record Chosen (b bs : List ℕ) : Type 0 where
  pub groups : List Group
  pub chosen : IsChosenRow groups
  pub text : b ≡ texts groups
  pub content : bs ≡ contents groups
