-- A law of texts with marks. (Our own.)
use Rattle.std.specs.Prelude.{◌≡◌, ℕ, List, false}
use Rattle.capn_value.specs.Tree.{Tree}
use Rattle.capn_show.specs.Style.{styled}
use Rattle.capn_marks.specs.MarkedPart.{lines_style, marked_at}
use Rattle.capn_marks.specs.declared.marks.Marks.{Marks}

-- If `marks` has neither offsets nor paths, `marked_at` gives the same text for the path `numbers` as `styled` in the
-- style `lines_style`.
abbrev pub WithoutMarks : Type 0
WithoutMarks = (m : List (List ℕ)) (marks : Marks) → marks.offsets ≡ false → marks.ways ≡ false
    → (numbers : List ℕ) (v : Tree) → marked_at m marks numbers v ≡ styled (lines_style marks.quoted) numbers v
