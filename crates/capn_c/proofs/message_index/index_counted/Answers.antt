-- The index has as many entries as the survey has visits.
use Rattle.std.proofs.Common.{arith}
use Rattle.capn_c.proofs.Counted.{many_entries}
use Rattle.capn_c.proofs.message_index.index_counted.Goals as goal

pub write_entries-requires-clause-room : goal.write_entries-requires-clause-room
write_entries-requires-clause-room g c =
    let many = many_entries c.indexes.ensures.visits c.args.space.now c.args.limits c.in-Ok.surveyed
    c.in-Ok.ensures.found in
    record { accepted = c.in-Ok.ensures.found.is.accepted; fits = omega (arith, c.if-surveyed-out.false, many) }
