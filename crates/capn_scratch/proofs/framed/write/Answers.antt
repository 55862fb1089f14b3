use Rattle.capn_scratch.proofs.Forms.{told_refused}
use Rattle.capn_scratch.proofs.framed.write.Goals as goal

pub returns : goal.returns
returns g c =
    let w = c.in_ok-written.ensures in
    record { written = w.written; refused = tt; unchanged = tt; bounded = w.bounded }

pub returns-in_err-written : goal.returns-in_err-written
returns-in_err-written g c =
    let w = c.in_err-written.ensures in
    told_refused c.args.space.0 c.args.limits c.args.out.now _ c.from_residual.result _
    c.from_residual.ensures.1 w.refused w.unchanged w.bounded
