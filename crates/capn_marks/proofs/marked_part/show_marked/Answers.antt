use Rattle.std.proofs.Common.{arith}
use Rattle.capn_marks.specs.MarkedPart.{marked_at}
use Rattle.capn_show.proofs.shared.Ends.{unwritten}
use Rattle.capn_marks.proofs.marked_part.show_marked.Goals as goal

pub mark_part-requires-clause-ready : goal.mark_part-requires-clause-ready
mark_part-requires-clause-ready g c =
    let m = g.S.Space.message c.args.message.now in
    let f = c.in_ok-survey.ensures.found in
    let low = (c.values.ensures.cheap m c.args.limits f.value f.is).1 in
    let depth = c.depth.ensures.value in
    record { value = f.value; is = f.is.is; low = omega arith }

pub returns-in-Ok-clause-shown : goal.returns-in-Ok-clause-shown
returns-in-Ok-clause-shown g c =
    let f = c.in_ok-survey.ensures.found in
    record { value = f.value; is = f.is; text = c.in-Ok.ensures.shown f.value f.is.is }

pub returns-in-Err-clause-refused : goal.returns-in-Err-clause-refused
returns-in-Err-clause-refused g c =
    let f = c.in_ok-survey.ensures.found in
    unwritten (g.S.Space.message c.args.message.now) c.args.limits (marked_at (g.S.Space.message c.args.message.now)
    c.args.marks c.args.path.now) _ _ c.in-Err.broken c.fault_of.result c.fault_of.ensures
    (record { value = f.value; is = f.is; text = c.in-Err.ensures.cut f.value f.is.is })
