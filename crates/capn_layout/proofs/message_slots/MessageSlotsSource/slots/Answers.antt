use Rattle.std.proofs.Common.{arith}
use Rattle.capn_layout.proofs.writer.MessageItems.{slots-of-row}
use Rattle.capn_layout.proofs.message_slots.MessageSlotsSource.slots.Goals as goal

pub returns : goal.returns
returns g c bs h k lt =
    rw c.again.ensures (slots-of-row c.args.rows.now.space c.args.rows.now.start c.args.rows.now.count
    c.args.rows.now.words c.args.rows.now.slots bs c.args.row k h
    (let e = h.number in let f = c.requires.1.number in let l = c.requires.2 in
    omega arith) lt)
