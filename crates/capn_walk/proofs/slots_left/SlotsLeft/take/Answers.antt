use Rattle.capn_walk.proofs.OwedSlots.{taken}
use Rattle.capn_walk.proofs.slots_left.SlotsLeft.take.Goals as goal

pub returns-clause-places : goal.returns-clause-places
returns-clause-places c = taken c.args.self c.requires.some
