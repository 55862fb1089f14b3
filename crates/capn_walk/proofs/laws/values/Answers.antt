use Rattle.capn_walk.proofs.Answering.{readable, fits, cheap}
use Rattle.capn_walk.proofs.Heights.{depths-heights}
use Rattle.capn_walk.proofs.shared.InRangeAt.{in_range-at}
use Rattle.capn_walk.proofs.shared.Unique.{unique, unique-slots, unique-rows}
use Rattle.capn_walk.proofs.laws.values.Goals as goal

pub returns-clause-readable : goal.returns-clause-readable
returns-clause-readable c = readable

pub returns-clause-one : goal.returns-clause-one
returns-clause-one c m at v w i j = unique m v w at i j

pub returns-clause-slots : goal.returns-clause-slots
returns-clause-slots c m vs ws s w e i j = unique-slots m vs ws s w e i j

pub returns-clause-rows : goal.returns-clause-rows
returns-clause-rows c m bs cs a b s w e i j = unique-rows m bs cs a b s w e i j

pub returns-clause-in_range : goal.returns-clause-in_range
returns-clause-in_range c m at v h i = in_range-at m h.each v at i

pub returns-clause-fit : goal.returns-clause-fit
returns-clause-fit c = fits

pub returns-clause-cheap : goal.returns-clause-cheap
returns-clause-cheap c = cheap

pub returns-clause-deep : goal.returns-clause-deep
returns-clause-deep c = depths-heights
