use Rattle.std.proofs.Common.{arith}
use Rattle.capn_show.specs.Style.{styled}
use Rattle.capn_show.proofs.shared.Ends.{unwritten}
use Rattle.capn_show.proofs.part.show_part.Goals as goal

pub write_part-requires-clause-ready : goal.write_part-requires-clause-ready
write_part-requires-clause-ready g c =
    let m = g.S.Space.message c.args.space.now in
    let f = c.in_ok-survey.ensures.found in
    let low = (c.values.ensures.cheap m c.args.limits f.value f.is).1 in
    let depth = c.depth.ensures.value in
    record { value = f.value; is = f.is.is; low = omega arith }

pub returns-in-Ok-clause-shown : goal.returns-in-Ok-clause-shown
returns-in-Ok-clause-shown g c =
    let f = c.in_ok-survey.ensures.found in
    record { value = f.value; is = f.is; text = c.in-Ok.ensures.shown f.value f.is.is }

pub returns-in-Err-clause-refused : goal.returns-in-Err-clause-refused
returns-in-Err-clause-refused g c =
    let f = c.in_ok-survey.ensures.found in
    unwritten (g.S.Space.message c.args.space.now) c.args.limits (styled c.args.style c.args.path.now) _ _
    c.in-Err.broken c.fault_of.result c.fault_of.ensures (record
    { value = f.value; is = f.is; text = c.in-Err.ensures.cut f.value f.is.is })
