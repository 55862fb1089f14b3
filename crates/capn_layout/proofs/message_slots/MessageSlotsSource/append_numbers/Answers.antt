use Rattle.std.proofs.Common.{ℕ, List, ap, sym, subst, length, arith}
use Rattle.capn_layout.specs.inner.Draft.{Appends}
use Rattle.capn_layout.proofs.shared.Copied.{length-first-bits}
use Rattle.capn_layout.proofs.message_slots.MessageSlotsSource.append_numbers.Goals as goal

pub append_bits-requires-clause-message : goal.append_bits-requires-clause-message
append_bits-requires-clause-message g c = c.requires.1.message

pub append_bits-requires-clause-content : goal.append_bits-requires-clause-content
append_bits-requires-clause-content g c = c.requires.1.content

pub append_bits-requires-clause-few : goal.append_bits-requires-clause-few
append_bits-requires-clause-few g c = c.requires.1.few

pub append_bits-requires-clause-room : goal.append_bits-requires-clause-room
append_bits-requires-clause-room g c =
    let h = c.requires.1 in
    let r = c.requires.2 in
    let x = c.args.numbers.now in
    let l = length-first-bits x.space x.start.segment x.start.word x.bits h.content.within in
    let e = ap length h.is in
    omega arith

pub returns-clause-appends : goal.returns-clause-appends
returns-clause-appends g c ws h =
    subst (λ (x : List ℕ). Appends c.args.len c.append_bits.result x c.args.out.now c.append_bits.new.out) (sym h.is)
    c.append_bits.ensures.appends

pub returns-clause-reads : goal.returns-clause-reads
returns-clause-reads g c ws h =
    let x = c.args.numbers.now in
    let l = length-first-bits x.space x.start.segment x.start.word x.bits h.content.within in
    let e = ap length h.is in
    let r = c.append_bits.ensures.reads in
    omega arith
