-- For an accepted message, the only error is `Memory`, with the status 8.
use Rattle.std.proofs.Common.{ap, Err}
use Rattle.capn_c.proofs.Reported.{unaccepted_done}
use Rattle.capn_c.proofs.check_call.check.Goals as goal

pub returns-in-Err : goal.returns-in-Err
returns-in-Err g c =
    let bs = g.B.AskedInput.bytes c.args.bytes in
    let h = c.in-Err.ensures in
    unaccepted_done c.args.form bs c.args.limits c.refuse.result c.refuse.new.report c.in-Err.refusal
    c.refuse.ensures h.bounded (λ k. h.memory (ap Err k)) h.refused
