-- Streams of texts: texts one after the other, each followed by the line `end`. (Our own.)
use Rattle.std.specs.Prelude.{ℕ, zero, suc, ◌≡◌, ◌≢◌, ◌⊎◌, ◌≤◌, ◌<◌}
use Rattle.std.specs.Prelude.{◌+◌, List, [], ◌∷◌, ◌++◌, codes, cond, ◌==◌, length}
use Rattle.capn_value.specs.Tree.{Tree}
use Rattle.capn_value.specs.InRange.{InRange}
use Rattle.capn_value.specs.Cost.{height, most_height}
use Rattle.capn_value.specs.Text.{show_text}
use Rattle.capn_text.specs.Showable.{IsShowable}
use Rattle.capn_text.specs.declared.fault.TextFault.{TextFault}
use Rattle.capn_text.specs.declared.fault.TextFault.TheVariants as faults

-- The line `end` with its newline, which follows each text of a stream.
abbrev pub end_line : List ℕ
end_line = codes "end\n"

-- The texts of the given values, each followed by the line `end`.
abbrev pub stream_text : List Tree → List ℕ
stream_text [] = []
stream_text (v ∷ vs) = show_text v ++ (end_line ++ stream_text vs)

-- The text of `v`, followed by the line `end`.
abbrev pub ended_text : Tree → List ℕ
ended_text v = show_text v ++ end_line

-- The number of lines that end in the bytes, which is the number of their newlines.
abbrev pub ended_lines : List ℕ → ℕ
ended_lines [] = 0
ended_lines (c ∷ cs) = cond (c == 10) 1 0 + ended_lines cs

-- The first lines of `text`, as many as the first argument says. All bytes of `text`, if it has fewer lines.
abbrev pub first_lines : ℕ → List ℕ → List ℕ
first_lines zero text = []
first_lines (suc n) [] = []
first_lines (suc n) (c ∷ cs) = c ∷ cond (c == 10) (first_lines n cs) (first_lines (suc n) cs)

-- A place in an input of texts: the bytes `rest` that are not read yet, and the number `line` of their first line.
pub record Place : Type 0 where
  pub rest : List ℕ
  pub line : ℕ

-- The first line of `text` is complete, and is the first line of the text of the showable value `v`.
abbrev pub BeginsAs : List ℕ → Tree → Type 0
BeginsAs text v = IsShowable v × (front : List ℕ) × (rest : List ℕ) × (more : List ℕ) × (text ≡ front ++ rest)
    × (show_text v ≡ front ++ more) × (0 < ended_lines front)

-- Line `n` is the first wrong line of `text`. For some showable value `v` of at most 256 levels, `spell v` and `text`
-- have the same lines before line `n`. For each showable `w`, `spell w` and `text` differ in their first `n` lines.
abbrev pub IsFirstWrong : (Tree → List ℕ) → ℕ → List ℕ → Type 0
IsFirstWrong spell n text = (k : ℕ) × (n ≡ k + 1)
    × (v : Tree) × IsShowable v × (height v ≤ most_height) × (first_lines k (spell v) ≡ first_lines k text)
    × ((w : Tree) → IsShowable w → first_lines n (spell w) ≡ first_lines n text → ⊥)

-- The fault `e` is `Line n` or `Cut n`, so it names line `n`.
abbrev pub Names : TextFault → ℕ → Type 0
Names e n = (e ≡ faults.Line n) ⊎ (e ≡ faults.Cut n)

-- An upper bound for the number of bytes in a line, unless the line has the digits of a list.
abbrev pub few : ℕ
few = 2048

-- `text` with at most `few` bytes removed from its end is a prefix of `ended_text v` for some value `v`. `v` is
-- showable and in range, and has at most 256 levels.
abbrev pub MayGoOn : List ℕ → Type 0
MayGoOn text = (front : List ℕ) × (last : List ℕ) × (text ≡ front ++ last) × (length last ≤ few)
    × (v : Tree) × (more : List ℕ) × IsShowable v × InRange v × (height v ≤ most_height)
    × (front ++ more ≡ ended_text v)

-- `text` does not begin with the text and line `end` of any showable value of at most 256 levels. Line `n` is the first
-- wrong line of `text`, if its lines are counted from `line`.
abbrev pub IsWrongAt : ℕ → List ℕ → ℕ → Type 0
IsWrongAt line text n = ((v : Tree) (rest : List ℕ) → IsShowable v → height v ≤ most_height
    → text ≢ show_text v ++ (end_line ++ rest)) × (k : ℕ) × (n + 1 ≡ line + k) × IsFirstWrong ended_text k text

-- `text` goes too deep. Its first `n` lines are complete, and are the first lines of the text of some showable value.
-- Each such value has more than 256 levels.
abbrev pub GoesTooDeep : List ℕ → Type 0
GoesTooDeep text = (n : ℕ) × (n ≤ ended_lines text)
    × (v : Tree) × IsShowable v × (first_lines n (show_text v) ≡ first_lines n text)
    × ((w : Tree) → IsShowable w → first_lines n (show_text w) ≡ first_lines n text → most_height < height w)
