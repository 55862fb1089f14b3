use Rattle.capn_canon.proofs.calls.Measured.{not_one}
use Rattle.capn_canon.proofs.message_measure.measure.Goals as goal

pub measure_other-requires : goal.measure_other-requires
measure_other-requires g c v is = not_one (g.S.Space.message c.args.space.now) v c.in-None.ensures.other
