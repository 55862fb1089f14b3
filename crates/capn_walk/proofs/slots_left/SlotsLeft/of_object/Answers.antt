use Rattle.std.proofs.Common.{◌+◌, sym}
use Rattle.capn_walk.proofs.OwedSlots.{no-slots}
use Rattle.capn_walk.proofs.slots_left.SlotsLeft.of_object.Goals as goal

pub returns-then-slots-eq0-clause-places : goal.returns-then-slots-eq0-clause-places
returns-then-slots-eq0-clause-places c =
    rw (c.in-Rows.is, c.if-slots-eq0.true)
    (sym (no-slots c.args.start.segment (c.args.start.word + 1) c.in-Rows.words c.in-Rows.count))
