-- A message of more than one segment is not canonical.
use Rattle.capn_c.proofs.Measures.{not_one}
use Rattle.capn_c.proofs.counted_measure.measure_counted.Goals as goal

pub measure_other-requires : goal.measure_other-requires
measure_other-requires g c v is = not_one c.args.space.now v c.in-None.ensures.other
