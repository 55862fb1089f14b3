use Rattle.std.proofs.Common.{◌≡◌, ◌+◌, ◌^◌, ◌-◌, drop, min}
use Rattle.capn_value.specs.Tree.{row_words}
use Rattle.capn_value.specs.TreeOf.{rows_of}
use Rattle.capn_value.proofs.part_flaws.has_long_rows.Given as goal

abbrev pub invariant-loop-body : goal.invariant-loop-body
invariant-loop-body g l =
    min (l.words + row_words (rows_of (drop l.body-index l.bodies))) (2 ^ 64 - 1)
    ≡ min (row_words (rows_of l.bodies)) (2 ^ 64 - 1)
