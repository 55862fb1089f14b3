use Rattle.std.proofs.Common.{◌≡◌, drop}
use Rattle.capn_value.specs.Tree.{front, joined_rows}
use Rattle.capn_value.specs.TreeOf.{trees_of, rows_of}
use Rattle.capn_value.specs.inner.CutCopy.{each_anew, rows_anew}
use Rattle.capn_value.proofs.value_copy.+anew.Given as goal

abbrev pub invariant-anew_front-loop-i : goal.invariant-anew_front-loop-i
invariant-anew_front-loop-i g l = trees_of l.out ≡ front l.i (each_anew l.cut (trees_of l.items))

abbrev pub invariant-anew_rows-loop-row : goal.invariant-anew_rows-loop-row
invariant-anew_rows-loop-row g l =
    joined_rows (rows_of l.out) (rows_anew l.kept (rows_of (drop l.row-index l.rows)))
    ≡ rows_anew l.kept (rows_of l.rows)
