-- The text of canonical bytes, as `show --ways --form bare` writes it. (Our own.)
use Rattle.std.specs.Prelude.{◌≡◌, ℕ, List, [], ◌∷◌, ◌++◌, codes, true, false}
use Rattle.capn_words.specs.Message.{IsBare}
use Rattle.capn_value.specs.Tree.{Tree}
use Rattle.capn_walk.specs.Accepted.{root}
use Rattle.capn_walk.specs.ValueAt.{IsAt}
use Rattle.capn_marks.specs.MarkedPart.{marked_at}
use Rattle.capn_marks.specs.declared.marks.Marks.{Marks}

-- The marks of the text: only the paths.
abbrev pub ways_alone : Marks
ways_alone = record { offsets = false; ways = true; quoted = false; offset = 0; table = 0 }

-- The last line of the text, which has no path.
abbrev pub end_line : List ℕ
end_line = codes "\tend\n"

-- The text of the segment `words` with the value `v` at its root: the lines with their paths, and the line `end`.
abbrev pub shown_with_ways : List ℕ → Tree → List ℕ
shown_with_ways words v = marked_at (words ∷ []) ways_alone [] v ++ end_line

-- `bytes` are one segment of the words `words`, and `text` is the complete text of that segment.
pub record IsShown (bytes text : List ℕ) : Type 0 where
  pub words : List ℕ
  pub value : Tree
  pub bare : IsBare bytes words
  pub is : IsAt (words ∷ []) root value
  pub shown : text ≡ shown_with_ways words value

-- The text of `bytes` begins with `beginning`.
abbrev pub IsShownFrom : List ℕ → List ℕ → Type 0
IsShownFrom bytes beginning = (text : List ℕ) × (more : List ℕ) × IsShown bytes text × (text ≡ beginning ++ more)
