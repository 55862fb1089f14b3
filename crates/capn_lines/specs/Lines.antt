-- The lines of a message: words one after another in one segment, of one kind, which belong to one visit and are
-- covered as often. A line has as many words as it can, but a pointer, a word of a landing pad and a tag have a line
-- each. (Our own.)
use Rattle.std.specs.Prelude.{ℕ, zero, suc, ◌+◌, ◌-◌, ◌==◌, Bool, true, not, ◌&&◌, List, [], ◌∷◌, ◌++◌, length}
use Rattle.std.specs.Prelude.{slice_index_or, if◌then◌else◌}
use Rattle.capn_words.specs.Message.{segment_at, word_at}
use Rattle.capn_words.specs.declared.space.Place.{Place}
use Rattle.capn_cover.specs.Numbers.{number}
use Rattle.capn_cover.specs.Covers.{unreached}
use Rattle.capn_cover.specs.declared.covered.Covered.{Covered}
use Rattle.capn_lines.specs.Kinds.{kind_in, may_join}
use Rattle.capn_lines.specs.Sums.{one_if, sum_to}
use Rattle.capn_lines.specs.declared.kind.Kind.{Kind}
use Rattle.capn_lines.specs.declared.line.Line.{Line}

-- two words one after another, of the given kinds and covered so, stand in one line: they are of one kind, belong to
-- the visit of one slot and are covered as often
abbrev pub is_alike : Kind → Covered → Kind → Covered → Bool
is_alike kind covered next other =
    (may_join kind next && (covered.slot == other.slot)) && (covered.times == other.times)

-- the place `k` words behind a place
abbrev pub behind : Place → (k : ℕ) → Place
behind at k = record { segment = at.segment; word = at.word + k }

module _ (message : List (List ℕ)) (words : List Covered) where
  -- what covers the word at a place
  abbrev pub covered_at : Place → Covered
  covered_at at = slice_index_or words (number message at) unreached

  -- the kind of the word at a place
  abbrev pub kind_at : Place → Kind
  kind_at at = kind_in (word_at message at) (covered_at at).role

  -- the words at two places, one after another, stand in one line
  abbrev pub are_alike : Place → Place → Bool
  are_alike p q = is_alike (kind_at p) (covered_at p) (kind_at q) (covered_at q)

  -- a line begins at word `w` of segment `s`
  abbrev pub begins : (s w : ℕ) → Bool
  begins s zero = true
  begins s (suc w) = not (are_alike (record { segment = s; word = w }) (record { segment = s; word = suc w }))

  -- how many of the `n` words from word `w` on come before the next line
  abbrev pub followers : (s w n : ℕ) → ℕ
  followers s w zero = 0
  followers s w (suc n) = if begins s w then 0 else 1 + followers s (suc w) n

  -- the `n` words from a place on, as one line
  abbrev pub line_of : Place → (n : ℕ) → Line
  line_of at n = record {
    place = at;
    words = n;
    times = (covered_at at).times;
    kind = kind_at at;
    slot = (covered_at at).slot;
    cut = sum_to (λ k. one_if (covered_at (behind at k)).cut) n;
    not_zero = sum_to (λ k. one_if (not (word_at message (behind at k) == 0))) n;
    overlap = (covered_at at).overlap;
  }

  -- the words from a place on to the next line, as one line
  abbrev pub line_at : Place → Line
  line_at at =
      line_of at (1 + followers at.segment (at.word + 1) (length (segment_at message at.segment) - (at.word + 1)))

  -- the lines that begin at one of the `n` words from word `w` of segment `s` on
  abbrev pub lines_from : (s w n : ℕ) → List Line
  lines_from s w zero = []
  lines_from s w (suc n) =
      (if begins s w then line_at (record { segment = s; word = w }) ∷ [] else []) ++ lines_from s (suc w) n

  -- the lines of segment `s`
  abbrev pub segment_lines : (s : ℕ) → List Line
  segment_lines s = lines_from s 0 (length (segment_at message s))

  -- the lines of the first `n` segments
  abbrev pub lines_before : (n : ℕ) → List Line
  lines_before zero = []
  lines_before (suc s) = lines_before s ++ segment_lines s

  -- the lines of the message
  abbrev pub lines_of : List Line
  lines_of = lines_before (length message)
