use Rattle.std.proofs.Common.{arith}
use Rattle.capn_canon.proofs.calls.Compared.{compared, equal-bytes}
use Rattle.capn_canon.proofs.comparison.same_messages.Goals as goal

pub returns-clause-answered : goal.returns-clause-answered
returns-clause-answered g c =
    let told = c.ask_pair.ensures.2 in
    compared (g.A.AskedFirst.message c.args.a) (g.B.AskedSecond.message c.args.b) c.args.limits c.ask_pair.result
    told.found told.refused

pub returns-clause-equal : goal.returns-clause-equal
returns-clause-equal g c =
    let told = c.ask_pair.ensures.2 in
    equal-bytes (g.A.AskedFirst.message c.args.a) (g.B.AskedSecond.message c.args.b) c.args.limits
    c.ask_pair.ensures.0 c.ask_pair.ensures.1 (omega arith) (omega arith) c.ask_pair.result told.found
