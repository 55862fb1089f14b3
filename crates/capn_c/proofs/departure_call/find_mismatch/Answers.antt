-- For an accepted message, the only error is `Memory`.
use Rattle.std.proofs.Common.{ap, Err}
use Rattle.capn_c.proofs.Reported.{unaccepted_done}
use Rattle.capn_c.proofs.departure_call.find_mismatch.Goals as goal

pub returns-in-Err-clause-told : goal.returns-in-Err-clause-told
returns-in-Err-clause-told c =
    let h = c.in-Err.ensures in
    unaccepted_done c.args.form c.args.bytes.now c.args.limits c.refuse.result c.refuse.new.report c.in-Err.refusal
    c.refuse.ensures h.bounded (λ k. h.memory (ap Err k)) h.refused
