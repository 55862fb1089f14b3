use Rattle.std.proofs.Common.{arith}
use Rattle.capn_canon.proofs.calls.Compared.{compared, equal-bytes}
use Rattle.capn_canon.proofs.comparison.same_messages_counted.Goals as goal

pub returns-clause-answered : goal.returns-clause-answered
returns-clause-answered g c =
    let told = c.same_by_first.ensures.told in
    compared c.args.a.now c.args.b.now c.args.limits c.same_by_first.result told.found told.refused

pub returns-clause-equal : goal.returns-clause-equal
returns-clause-equal g c =
    let told = c.same_by_first.ensures.told in
    equal-bytes c.args.a.now c.args.b.now c.args.limits c.bounds.ensures c.bounds-2.ensures (omega arith) (omega arith)
    c.same_by_first.result told.found
