use Rattle.std.proofs.Common.{arith}
use Rattle.capn_value.proofs.Sized.{wide_here, wide_later, wide_nowhere}
use Rattle.capn_value.proofs.part_flaws.has_wide_row.Goals as goal

pub returns-then-is_wide_body : goal.returns-then-is_wide_body
returns-then-is_wide_body g c =
    wide_here c.args.bodies.now _ c.loop-body.invariant c.body-item.result (omega arith) c.body-item.is
    c.is_wide_body.ensures c.if-is_wide_body.true

pub loop-body-preserved : goal.loop-body-preserved
loop-body-preserved g c =
    wide_later c.args.bodies.now _ c.loop-body.invariant c.body-item.result (omega arith) c.body-item.is
    c.is_wide_body.ensures c.if-is_wide_body.false

pub returns : goal.returns
returns g c = wide_nowhere c.args.bodies.now _ c.loop-body.invariant (omega arith)
