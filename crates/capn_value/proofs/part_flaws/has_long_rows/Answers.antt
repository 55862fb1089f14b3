use Rattle.std.proofs.Common.{arith}
use Rattle.capn_value.proofs.Sized.{row_counted, rows_counted, above}
use Rattle.capn_value.proofs.part_flaws.has_long_rows.Goals as goal

pub loop-body-preserved : goal.loop-body-preserved
loop-body-preserved g c =
    row_counted c.args.bodies.now _ _ _ c.loop-body.invariant c.body-item.result (omega arith) c.body-item.is
    c.len.ensures c.len-in-loop-body.ensures c.saturating_add.ensures c.saturating_add-words.ensures

pub returns : goal.returns
returns g c =
    above c.loop-body.words _ _ _ (omega arith)
    (rows_counted c.args.bodies.now _ c.loop-body.words _ c.loop-body.invariant (omega arith))
