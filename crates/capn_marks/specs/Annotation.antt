-- The rule by which lines with marks are emitted.
use Rattle.std.specs.Prelude.{ℕ, Bool, List, if◌then◌else◌}
use Rattle.capn_show.specs.Emitted.{Rule, line_rule}
use Rattle.capn_marks.specs.declared.marks.Marks.{Marks}
use Rattle.capn_marks.specs.Marked.{below, byte_at, mark}

-- The text of the path to item `i` below the value at `path` if `ways` is true, and `path` itself if `ways` is false.
abbrev pub stepped : Bool → List ℕ → ℕ → List ℕ
stepped ways path i = if ways then below path i else path

-- The rule by which lines with `marks` are emitted.
abbrev pub rule_of : Marks → Rule
rule_of marks = line_rule marks.quoted (λ m at. byte_at m marks at) (stepped marks.ways) (mark marks)
