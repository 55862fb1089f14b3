use Rattle.capn_value.specs.Views.{tree_of-Node}
use Rattle.capn_walk.proofs.found.FoundSlots.into_struct.Goals as goal

pub returns-clause-value : goal.returns-clause-value
returns-clause-value g c = tree_of-Node _
