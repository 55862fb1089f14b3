-- The message is not canonical, so its survey and its depth make up its measure.
use Rattle.capn_c.proofs.Measures.{not_checked}
use Rattle.capn_c.proofs.counted_measure.measure_other.Goals as goal

pub returns-clause-found : goal.returns-clause-found
returns-clause-found g c =
    let m = c.in_ok-measured in
    not_checked c.args.space.now c.args.limits m.measured.survey m.measured.depth m.ensures.found m.ensures.depth
    c.requires
