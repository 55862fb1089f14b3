use Rattle.std.proofs.Common.{◌≡◌, max, drop}
use Rattle.capn_value.specs.TreeOf.{rows_of}
use Rattle.capn_value.specs.Trim.{kept_words_of_rows}
use Rattle.capn_value.proofs.kept_lengths.kept_words_of_rows.Given as goal

abbrev pub invariant-loop-row : goal.invariant-loop-row
invariant-loop-row g l =
    max l.most (kept_words_of_rows (rows_of (drop l.row-index l.rows))) ≡ kept_words_of_rows (rows_of l.rows)
