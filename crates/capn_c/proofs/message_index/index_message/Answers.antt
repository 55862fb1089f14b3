-- The refusal of a message that is not accepted, or `Memory`, is reported.
use Rattle.std.proofs.Common.{ap, Err}
use Rattle.capn_c.proofs.Listed.{message_listed}
use Rattle.capn_c.proofs.OutOfMemory.{message_memory}
use Rattle.capn_c.proofs.Reported.{not_indexed, reported}
use Rattle.capn_c.proofs.message_index.index_message.Goals as goal

pub returns-in-Err : goal.returns-in-Err
returns-in-Err g c =
    let m = g.M.Asked.message c.args.space in
    let l = c.args.limits in
    let e = c.in-Err.refusal in
    let h = c.in-Err.ensures in
    not_indexed c.refuse.result c.refuse.new.report e c.refuse.ensures l.budget c.args.out.now c.ask_into.new.out
    (reported l.budget c.refuse.result c.refuse.new.report e c.refuse.ensures h.refused (message_listed m l e h.refused)
    (λ k. h.memory (ap Err (message_memory m l e h.refused k))) h.bounded) h.unchanged h.only
