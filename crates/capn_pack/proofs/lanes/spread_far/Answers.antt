use Rattle.std.proofs.Common.{arith, ◌∙◌}
use Rattle.std.proofs.lemmas.List.{take-take}
use Rattle.capn_pack.proofs.LaneLemmas.{eight_ones}
use Rattle.capn_pack.proofs.lanes.spread_far.Goals as goal

pub returns-clause-bytes : goal.returns-clause-bytes
returns-clause-bytes c = c.spread_lanes.ensures.bytes
    ∙ take-take _ 16 c.args.bytes.now (omega (arith, eight_ones c.args.tag (omega arith)))
