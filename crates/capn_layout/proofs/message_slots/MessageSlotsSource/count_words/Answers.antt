use Rattle.std.proofs.Common.{ap, length, arith}
use Rattle.capn_layout.proofs.shared.Copied.{length-first-bits}
use Rattle.capn_layout.proofs.message_slots.MessageSlotsSource.count_words.Goals as goal

pub returns : goal.returns
returns g c ws h =
    let x = c.args.numbers.now in
    let l = length-first-bits x.space x.start.segment x.start.word x.bits h.content.within in
    let e = ap length h.is in
    let f = h.few in
    omega arith
