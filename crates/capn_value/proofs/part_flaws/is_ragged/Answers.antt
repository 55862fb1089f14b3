use Rattle.std.proofs.Common.{◌∙◌, ap}
use Rattle.capn_value.specs.Fits.{is_ragged}
use Rattle.capn_value.specs.Tree.{rows}
use Rattle.capn_value.specs.TreeOf.{rows_of}
use Rattle.capn_value.proofs.Cases.{even, rows_seen}
use Rattle.capn_value.proofs.part_flaws.is_ragged.Goals as goal

pub returns-in-Rows : goal.returns-in-Rows
returns-in-Rows g c =
    c.are_ragged.ensures ∙ ap (λ bs. is_ragged (rows (rows_of bs))) c.as_slice.ensures
    ∙ rows_seen is_ragged _ _ c.in-Rows.is

pub returns-in_default : goal.returns-in_default
returns-in_default g c = even _ c.in_default.not-Rows
