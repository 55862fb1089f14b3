-- Laws of the texts of values: a text is the text of at most one value, and has at most one first wrong line.
use Rattle.std.specs.Prelude.{◌≡◌, ◌<◌, ◌≤◌, ℕ, List, [], ◌∷◌, ◌++◌}
use Rattle.std.specs.List.{AllByRecursion}
use Rattle.capn_value.specs.Tree.{Tree}
use Rattle.capn_value.specs.Fits.{Fits}
use Rattle.capn_value.specs.InRange.{InRange}
use Rattle.capn_value.specs.Cost.{height, most_height}
use Rattle.capn_value.specs.Text.{shown, show_text}
use Rattle.capn_text.specs.Showable.{IsShowable}
use Rattle.capn_text.specs.Streams.{end_line, ended_lines, stream_text, ended_text, BeginsAs, IsFirstWrong}
use Rattle.capn_text.specs.Streams.{GoesTooDeep}

-- Let the text of `v`, followed by `x`, equal the text of `w`, followed by `y`, both at `level`. If both values are
-- showable, `v` equals `w`, and `x` equals `y`.
abbrev pub TextsAreApart : Type 0
TextsAreApart = (level : ℕ) (v w : Tree) (x y : List ℕ) → IsShowable v → IsShowable w
    → shown level v ++ x ≡ shown level w ++ y → (v ≡ w) × (x ≡ y)

-- A value `v` that fits and is in range is showable.
abbrev pub FittingIsShowable : Type 0
FittingIsShowable = (v : Tree) → Fits v → InRange v → IsShowable v

-- Two values `v` and `w` that fit and are in range are equal if their texts are equal.
abbrev pub OneValue : Type 0
OneValue = (v w : Tree) → Fits v → InRange v → Fits w → InRange w → show_text v ≡ show_text w → v ≡ w

-- Two lists of showable values, `vs` and `ws`, are equal if their streams of texts are equal.
abbrev pub OneStream : Type 0
OneStream = (vs ws : List Tree) → AllByRecursion IsShowable vs → AllByRecursion IsShowable ws
    → stream_text vs ≡ stream_text ws → vs ≡ ws

-- The stream of `vs` and then `v`, followed by `rest`, is the stream of `vs`, the text of `v`, the line `end`, and
-- `rest`.
abbrev pub StreamGoesOn : Type 0
StreamGoesOn = (vs : List Tree) (v : Tree) (rest : List ℕ)
    → stream_text (vs ++ v ∷ []) ++ rest ≡ stream_text vs ++ (show_text v ++ (end_line ++ rest))

-- If lines `m` and `n` are both the first wrong line of `text`, for values written by `spell`, `m` equals `n`.
abbrev pub OneWrongLine : Type 0
OneWrongLine = (spell : Tree → List ℕ) (m n : ℕ) (text : List ℕ) → IsFirstWrong spell m text
    → IsFirstWrong spell n text → m ≡ n

-- If `text` goes too deep, no line `n` is its first wrong line, for values written by `show_text` or by `ended_text`.
abbrev pub WrongIsNotDeep : Type 0
WrongIsNotDeep = (n : ℕ) (text : List ℕ) → GoesTooDeep text
    → (IsFirstWrong show_text n text → ⊥) × (IsFirstWrong ended_text n text → ⊥)

-- If `text` goes too deep and begins with the text of a showable value `v`, `v` has more than 256 levels.
abbrev pub DeepIsHigh : Type 0
DeepIsHigh = (v : Tree) (text rest : List ℕ) → GoesTooDeep text → IsShowable v → text ≡ show_text v ++ rest
    → most_height < height v

-- If line `n` is the first wrong line of `text` and is complete, it is also the first wrong line of `text ++ more`.
abbrev pub WrongLineStays : Type 0
WrongLineStays = (spell : Tree → List ℕ) (n : ℕ) (text more : List ℕ) → n ≤ ended_lines text
    → IsFirstWrong spell n text → IsFirstWrong spell n (text ++ more)

-- Let the first wrong line `n` of `text` be complete. If `text ++ more` begins with the text of a showable `v` and the
-- line `end`, `text` also begins with them.
abbrev pub NoTextGoesOn : Type 0
NoTextGoesOn = (n : ℕ) (v : Tree) (text more rest : List ℕ) → n ≤ ended_lines text → IsFirstWrong ended_text n text
    → IsShowable v → text ++ more ≡ show_text v ++ (end_line ++ rest)
    → (left : List ℕ) × (text ≡ show_text v ++ (end_line ++ left))

-- If `text` goes too deep, `text ++ more` also goes too deep.
abbrev pub DeepStays : Type 0
DeepStays = (text more : List ℕ) → GoesTooDeep text → GoesTooDeep (text ++ more)

-- Let the first line of `text` be complete. If `text ++ more` begins as the value `v` (`BeginsAs`), `text` also begins
-- as `v`.
abbrev pub NoBeginningComes : Type 0
NoBeginningComes = (text more : List ℕ) (v : Tree) → 0 < ended_lines text → BeginsAs (text ++ more) v
    → BeginsAs text v
