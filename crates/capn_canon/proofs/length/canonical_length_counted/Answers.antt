use Rattle.std.proofs.Common.{arith}
use Rattle.capn_canon.proofs.calls.IntoBuffers.{length_answered, short_length}
use Rattle.capn_canon.proofs.length.canonical_length_counted.Goals as goal

pub returns-clause-answered : goal.returns-clause-answered
returns-clause-answered g c =
    let told = c.length_by_segments.ensures.told in
    length_answered c.args.space.now c.args.limits c.length_by_segments.result told.found told.refused

pub returns-clause-short : goal.returns-clause-short
returns-clause-short g c =
    let told = c.length_by_segments.ensures.told in
    short_length c.args.space.now c.args.limits c.length_by_segments.result told.found
    c.bounds.ensures (omega arith) (omega arith)
