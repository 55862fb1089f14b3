-- The marks of a message in an input (offsets and paths), and the line `end` with marks. (Our own.)
use Rattle.std.specs.Prelude.{◌≡◌, ℕ, ◌+◌, ◌*◌, List, [], ◌∷◌, ◌++◌, codes, Bool, true, false, if◌then◌else◌}
use Rattle.std.specs.Prelude.{refl}
use Rattle.std.specs.Fmt.{decimal, digits}
use Rattle.capn_marks.specs.declared.marks.Marks.{Marks}
use Rattle.capn_show.specs.Style.{is_quoted}
use Rattle.capn_serve.specs.Table.{table_words}
use Rattle.capn_serve.specs.declared.position.Position.{Position}
use Rattle.capn_commands.specs.declared.part_texts.PartTexts.{PartTexts}

-- The marks of `message` at the position `at`, with the options of `s`.
abbrev pub marks_of : PartTexts → Position → List (List ℕ) → Marks
marks_of s at message = record {
  offsets = s.offsets;
  ways = s.ways;
  quoted = is_quoted s.style;
  offset = at.offset;
  table = table_words s.form message;
}

-- The offset of the byte after a message of `words` words, which begins at `marks.offset` with a segment table of
-- `marks.table` words.
abbrev pub byte_after : Marks → ℕ → ℕ
byte_after marks words = marks.offset + 8 * (marks.table + words)

-- The line `end` after a message of `words` words. If `marks` ask for offsets, the line begins with the offset of the
-- byte after the message. If `marks` ask for paths, an empty path and a tab stand directly before `end`.
abbrev pub marked_end : Marks → ℕ → List ℕ
marked_end marks words =
    (if marks.offsets then decimal (byte_after marks words) ++ 9 ∷ [] else [])
    ++ ((if marks.ways then 9 ∷ [] else []) ++ (codes "end" ++ 10 ∷ []))

-- Two examples: the line after a message of 3 words, whose segment table of 1 word begins at byte 24.

after_both : marked_end (record { offsets = true; ways = true; quoted = false; offset = 24; table = 1 }) 3
    ≡ codes "56\t\tend\n"
unfolding digits
after_both = refl

after_ways : marked_end (record { offsets = false; ways = true; quoted = false; offset = 24; table = 1 }) 3
    ≡ codes "\tend\n"
after_ways = refl
