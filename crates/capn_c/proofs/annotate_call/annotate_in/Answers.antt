-- A refusal says why the bytes are not accepted.
use Rattle.std.proofs.Common.{inr, ap, ◌∙◌, Err}
use Rattle.capn_abi.specs.StatusCodes.{code}
use Rattle.capn_c.proofs.Reported.{unaccepted_bytes}
use Rattle.capn_c.proofs.annotate_call.annotate_in.Goals as goal

pub returns-in-Err-clause-only : goal.returns-in-Err-clause-only
returns-in-Err-clause-only c v d =
    inr (c.refuse.ensures.status_is ∙ ap code (c.in-Err.ensures.only v d))

pub returns-in-Err-clause-reported : goal.returns-in-Err-clause-reported
returns-in-Err-clause-reported c =
    let h = c.in-Err.ensures in
    unaccepted_bytes c.args.form c.args.bytes.now c.args.limits c.refuse.result c.refuse.new.report c.in-Err.refusal
    c.refuse.ensures h.bounded (λ k. h.memory (ap Err k)) h.refused
