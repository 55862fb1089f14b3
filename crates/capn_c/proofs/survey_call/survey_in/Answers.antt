-- For an accepted message, the only error is `Memory`, with the status 8.
use Rattle.std.proofs.Common.{ap, Err}
use Rattle.capn_c.proofs.Reported.{unaccepted_done}
use Rattle.capn_c.proofs.survey_call.survey_in.Goals as goal

pub returns-in-Err-clause-told : goal.returns-in-Err-clause-told
returns-in-Err-clause-told g c =
    let bs = g.B.AskedInput.bytes c.args.bytes in
    let h = c.in-Err.ensures in
    unaccepted_done c.args.form bs c.args.limits c.refuse.result c.refuse.new.report c.in-Err.refusal c.refuse.ensures
    h.bounded (λ k. h.memory (ap Err k)) h.refused
