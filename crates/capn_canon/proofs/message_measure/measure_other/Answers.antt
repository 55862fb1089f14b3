use Rattle.capn_canon.proofs.calls.Measured.{not_checked}
use Rattle.capn_canon.proofs.message_measure.measure_other.Goals as goal

pub returns-clause-found : goal.returns-clause-found
returns-clause-found g c =
    let m = c.in_ok-measured in
    not_checked (g.S.Space.message c.args.space.now) c.args.limits m.measured.survey m.measured.depth m.ensures.found
    m.ensures.depth c.requires
