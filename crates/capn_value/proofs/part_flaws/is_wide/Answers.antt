use Rattle.std.proofs.Common.{◌∙◌, ap}
use Rattle.capn_value.specs.Fits.{is_wide, has_wide_row}
use Rattle.capn_value.specs.TreeOf.{rows_of}
use Rattle.capn_value.proofs.Cases.{narrow, node_seen, rows_seen}
use Rattle.capn_value.proofs.part_flaws.is_wide.Goals as goal

pub returns-in-Node : goal.returns-in-Node
returns-in-Node g c = c.is_wide_body.ensures ∙ node_seen is_wide _ _ c.in-Node.is

pub returns-in-Rows : goal.returns-in-Rows
returns-in-Rows g c =
    c.has_wide_row.ensures ∙ ap (λ bs. has_wide_row (rows_of bs)) c.as_slice.ensures
    ∙ rows_seen is_wide _ _ c.in-Rows.is

pub returns-in_default : goal.returns-in_default
returns-in_default g c = narrow _ c.in_default.not-Node c.in_default.not-Rows
