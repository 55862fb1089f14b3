use Rattle.capn_tool.proofs.Carried.{carried}
use Rattle.capn_tool.proofs.message_run.carry_out.Goals as goal

pub returns : goal.returns
returns g c =
    let run = c.run-outcome.ensures in
    let flush = c.flush_after.ensures in
    carried c.args.command _ _ _ _ _ _ _ _ c.run-outcome.result c.flush_after.result
    run.exact run.only run.io run.begun run.heard run.ahead run.memory flush.kept flush.ended
