use Rattle.std.proofs.Common.{arith}
use Rattle.capn_canon.proofs.calls.IntoBuffers.{length_answered, short_length}
use Rattle.capn_canon.proofs.length.canonical_length.Goals as goal

pub returns-clause-answered : goal.returns-clause-answered
returns-clause-answered g c =
    let told = c.ask.ensures.1 in
    length_answered (g.M.Asked.message c.args.space) c.args.limits c.ask.result told.found told.refused

pub returns-clause-short : goal.returns-clause-short
returns-clause-short g c =
    let told = c.ask.ensures.1 in
    short_length (g.M.Asked.message c.args.space) c.args.limits c.ask.result told.found c.ask.ensures.0 (omega arith)
    (omega arith)
