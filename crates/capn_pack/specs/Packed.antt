-- Packed texts, which are rows of groups. A word is its eight bytes, the least significant first. (Page: packing.)
use Rattle.std.specs.Prelude.{ℕ, ◌≡◌, ◌+◌, ◌*◌, ◌/◌, ◌%◌, ◌<◌, ◌==◌, if◌then◌else◌, List, [], ◌∷◌, ◌++◌, length}
use Rattle.std.specs.Prelude.{replicate, ⊤}
use Rattle.std.specs.List.{flat_map, AllByRecursion}

-- ---- the tag of a word, one bit for each of its eight bytes, and the three kinds of group. A word is its eight bytes,
-- the least significant first. (Page: packing.)

-- The tag of some bytes. Bit i of the tag is 1 exactly if byte i is not zero.
abbrev pub tag_of : List ℕ → ℕ
tag_of [] = 0
tag_of (x ∷ xs) = (if x == 0 then 0 else 1) + 2 * tag_of xs

-- The bytes that `tag` names, which are those whose bit in `tag` is 1.
abbrev pub named_bytes : ℕ → List ℕ → List ℕ
named_bytes tag [] = []
named_bytes tag (x ∷ xs) = if tag % 2 == 1 then x ∷ named_bytes (tag / 2) xs else named_bytes (tag / 2) xs

-- Each byte that the tag does not name is zero.
abbrev pub IsNamedBy : ℕ → List ℕ → Type 0
IsNamedBy tag [] = ⊤
IsNamedBy tag (x ∷ xs) = (tag % 2 ≡ 0 → x ≡ 0) × IsNamedBy (tag / 2) xs

-- One group of a packed text.
pub data Group : Type 0 where
  -- a word of zeros, and `more` words of zeros after it
  Zeros : (more : ℕ) → Group
  -- one word, whose text is the tag and only the bytes that the tag names
  Named : (tag : ℕ) (word : List ℕ) → Group
  -- one word, and `more`, the bytes of `count` words after it, all written in full
  Raw : (word : List ℕ) (count : ℕ) (more : List ℕ) → Group

-- The parts of the group fit together. A count is below 256, a word has eight bytes, and `more` has eight bytes for
-- each word that is counted. The tag of a named group is neither 0 nor 255, and each byte that it does not name is
-- zero. (Our own: a byte that the tag names may be zero, and a run may end although the next word would continue it.)
abbrev pub IsGroup : Group → Type 0
IsGroup (Zeros more) = more < 256
IsGroup (Named tag word) = (0 < tag) × (tag < 255) × (length word ≡ 8) × IsNamedBy tag word
IsGroup (Raw word count more) = (length word ≡ 8) × (count < 256) × (length more ≡ 8 * count)

-- The text of a group: the tag, and then its contents. These are a count for `Zeros`, the named bytes for `Named`, and
-- a word, a count and more words for `Raw`.
abbrev pub group_text : Group → List ℕ
group_text (Zeros more) = 0 ∷ more ∷ []
group_text (Named tag word) = tag ∷ named_bytes tag word
group_text (Raw word count more) = 255 ∷ word ++ count ∷ more

-- The bytes of the words of a group.
abbrev pub group_bytes : Group → List ℕ
group_bytes (Zeros more) = replicate (8 * (1 + more)) 0
group_bytes (Named tag word) = word
group_bytes (Raw word count more) = word ++ more

-- The number of words of a group.
abbrev pub group_words : Group → ℕ
group_words (Zeros more) = 1 + more
group_words (Named tag word) = 1
group_words (Raw word count more) = 1 + count

-- ---- packed texts: rows of groups. (Page: packing.)

-- The texts of `groups`, one after another.
abbrev pub texts : List Group → List ℕ
texts groups = flat_map group_text groups

-- The bytes of the words of all `groups`, joined.
abbrev pub contents : List Group → List ℕ
contents groups = flat_map group_bytes groups

-- The number of words of a row of groups.
abbrev pub word_count : List Group → ℕ
word_count [] = 0
word_count (g ∷ gs) = group_words g + word_count gs

-- The text `b` packs the words whose bytes are `bs`: `b` is a row of groups, and `bs` are the bytes of their words.
pub record Packs (b bs : List ℕ) : Type 0 where
  pub groups : List Group
  pub each : AllByRecursion IsGroup groups
  pub is_text : b ≡ texts groups
  pub are_bytes : bs ≡ contents groups
