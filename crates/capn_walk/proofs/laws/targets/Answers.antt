use Rattle.capn_target.proofs.shared.Inside.{found-inside}
use Rattle.capn_walk.proofs.shared.Walks.{is-inside}
use Rattle.capn_target.proofs.shared.Ways.{one-of-three}
use Rattle.capn_walk.proofs.ThreeWays.{back}
use Rattle.capn_walk.proofs.laws.targets.Goals as goal

pub returns-clause-inside : goal.returns-clause-inside
returns-clause-inside c m at t h e = found-inside m at t h e

pub returns-clause-content : goal.returns-clause-content
returns-clause-content c m at s start pads shape v e i = is-inside m at s start pads shape v e i

pub returns-clause-ways : goal.returns-clause-ways
returns-clause-ways c m at s start pads shape = (one-of-three m at s start pads shape, back m at s start pads shape)
