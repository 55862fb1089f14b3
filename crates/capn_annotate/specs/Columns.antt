-- The columns of a line before its text. (Our own.)
use Rattle.std.specs.Prelude.{◌≡◌, ℕ, ◌+◌, ◌-◌, nat_lt, List, ◌++◌, codes, refl, if◌then◌else◌}
use Rattle.std.specs.Fmt.{decimal, digits}
use Rattle.capn_words.specs.declared.space.Place.{Place}
use Rattle.capn_diagnostics.specs.Texts.{path_text, word_text}
use Rattle.capn_lines.specs.declared.kind.Kind.{Kind}
use Rattle.capn_lines.specs.declared.kind.Kind.TheVariants as kinds
use Rattle.capn_annotate.specs.declared.columns.Columns.{Columns}

-- The name of a kind.
abbrev pub kind_name : Kind → List ℕ
kind_name kinds.Pointer = codes "pointer"
kind_name kinds.Null = codes "null"
kind_name kinds.Pad = codes "pad"
kind_name kinds.Tag = codes "tag"
kind_name kinds.Data = codes "data"
kind_name kinds.List = codes "list"
kind_name kinds.Slack = codes "slack"
kind_name kinds.Unreached = codes "unreached"

-- A place: the segment and the index of the word in it.
abbrev pub place_text : Place → List ℕ
place_text at = decimal at.segment ++ (codes ":" ++ decimal at.word)

-- The place of the first of `n` words, and the index of the last one if there are several.
abbrev pub place_column : Place → (n : ℕ) → List ℕ
place_column at n =
    if nat_lt n 2 then place_text at
    else decimal at.segment ++ (codes ":" ++ (decimal at.word ++ (codes "-" ++ decimal (at.word + (n - 1)))))

-- The bytes of the first of `n` words, and two dots if there are several.
abbrev pub bytes_column : (word n : ℕ) → List ℕ
bytes_column word n = if nat_lt n 2 then word_text word else word_text word ++ codes ".."

-- The columns of a line before its way: the byte of its first word, the place of its words, the bytes of the first
-- word, how often the words are covered, and their kind.
abbrev pub columns_text : Columns → List ℕ
columns_text c =
    decimal c.byte ++ (codes "\t" ++ (place_column c.place c.words ++ (codes "\t" ++ (bytes_column c.word c.words
    ++ (codes "\t" ++ (decimal c.times ++ (codes "\t" ++ (kind_name c.kind ++ codes "\t"))))))))

-- The way of a line, by the numbers that lead to its first word. It is empty for words that nothing covers.
abbrev pub way_column : Kind → List ℕ → List ℕ
way_column kinds.Unreached path = codes ""
way_column _ path = path_text path

several : place_column (record { segment = 1; word = 5 }) 3 ≡ codes "1:5-7"
unfolding digits
several = refl
