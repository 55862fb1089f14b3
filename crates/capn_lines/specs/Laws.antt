-- The laws of the lines of a message. (Our own.)
use Rattle.std.specs.Prelude.{◌≡◌, ℕ, ◌<◌, true, List, length}
use Rattle.std.specs.List.{flat_map}
use Rattle.capn_words.specs.Message.{segment_at, IsPlace}
use Rattle.capn_words.specs.declared.space.Place.{Place}
use Rattle.capn_walk.specs.Limits.{Bounds}
use Rattle.capn_walk.specs.Visits.{places}
use Rattle.capn_cover.specs.Cover.{IsCover}
use Rattle.capn_cover.specs.declared.covered.Covered.{Covered}
use Rattle.capn_lines.specs.Kinds.{may_join}
use Rattle.capn_lines.specs.Lines.{behind, covered_at, kind_at, line_at, segment_lines}
use Rattle.capn_lines.specs.declared.line.Line.{Line}

-- the places of a line's words
abbrev pub line_places : Line → List Place
line_places line = places line.place.segment line.place.word line.words

-- the words of a segment's lines, one line after another, are the words of the segment in order, each of them once
abbrev pub LinesHaveAllWords : Type 0
LinesHaveAllWords =
    (message : List (List ℕ)) (words : List Covered) (s : ℕ)
    → flat_map line_places (segment_lines message words s) ≡ places s 0 (length (segment_at message s))

-- the word at a place is as the line says of its words
pub record IsWordOf (message : List (List ℕ)) (words : List Covered) (line : Line) (at : Place) : Type 0 where
  pub kind : kind_at message words at ≡ line.kind
  pub slot : (covered_at message words at).slot ≡ line.slot
  pub times : (covered_at message words at).times ≡ line.times

-- each word of a line is of the line's kind, belongs to the visit of the line's slot and is covered as often
abbrev pub WordsOfOneLineAgree : Type 0
WordsOfOneLineAgree =
    (message : List (List ℕ)) (words : List Covered) (at : Place) (k : ℕ) → k < (line_at message words at).words
    → IsWordOf message words (line_at message words at) (behind at k)

-- a line of more than one word is of no pointer, landing pad or tag
abbrev pub LongLinesMayJoin : Type 0
LongLinesMayJoin =
    (message : List (List ℕ)) (words : List Covered) (at : Place) → 1 < (line_at message words at).words
    → may_join (line_at message words at).kind (line_at message words at).kind ≡ true

-- of the cover of a message, the words of one line are all overlaps, or none is
abbrev pub OverlapsTogether : Type 0
OverlapsTogether =
    (message : List (List ℕ)) (limits : Bounds) (words : List Covered) → IsCover message limits words
    → (at : Place) → IsPlace message at → (k : ℕ) → k < (line_at message words at).words
    → (covered_at message words (behind at k)).overlap ≡ (line_at message words at).overlap
