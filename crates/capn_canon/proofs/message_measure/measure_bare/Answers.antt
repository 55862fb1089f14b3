use Rattle.capn_canon.proofs.calls.Measured.{bare_checked, not_told}
use Rattle.capn_canon.proofs.message_measure.measure_bare.Goals as goal

pub returns-in-Some-clause-found : goal.returns-in-Some-clause-found
returns-in-Some-clause-found g c = record {
  checked = bare_checked c.args.space.now c.args.limits c.in-Some.measured.survey c.in-Some.ensures.found;
  depth = c.in-Some.ensures.depth;
}

pub measure_other-requires : goal.measure_other-requires
measure_other-requires g c = not_told c.args.space.now c.args.limits c.in-None.ensures.only
