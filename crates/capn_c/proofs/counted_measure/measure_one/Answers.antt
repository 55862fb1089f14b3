-- A message for which the one pass returns `None` is not canonical.
use Rattle.capn_canon.specs.declared.surveyed_bare.MeasuredBare.{MeasuredBare}
use Rattle.capn_c.proofs.Measures.{not_told, one_checked}
use Rattle.capn_c.proofs.counted_measure.measure_one.Goals as goal

pub returns-in-Some-clause-found : goal.returns-in-Some-clause-found
returns-in-Some-clause-found g c = record {
  checked = one_checked c.args.space.now c.args.limits c.in-Some.measured.survey c.requires.one c.in-Some.ensures.found;
  depth = c.in-Some.ensures.depth;
}

pub measure_other-requires : goal.measure_other-requires
measure_other-requires g c = not_told MeasuredBare c.args.space.now c.args.limits c.in-None.ensures.only
