-- No refusal has the status 8, since no memory is needed.
use Rattle.std.proofs.Common.{ap, Err}
use Rattle.capn_stream.specs.Segments.{message_of}
use Rattle.capn_c.proofs.HeldRuns.{held_not_unaccepted}
use Rattle.capn_c.proofs.Reported.{unaccepted_held_done}
use Rattle.capn_c.proofs.survey_segments_call.tell_figures.Goals as goal

pub returns-in-Err-clause-told : goal.returns-in-Err-clause-told
returns-in-Err-clause-told c =
    let m = message_of c.args.segments.now in
    let e = c.in-Err.refusal in
    let h = c.in-Err.ensures in
    unaccepted_held_done m c.args.limits c.refuse.result c.refuse.new.report e c.refuse.ensures h.bounded
    (λ k. h.memory (ap Err k)) h.refused (λ v d. held_not_unaccepted m c.args.limits v e d h.refused)
