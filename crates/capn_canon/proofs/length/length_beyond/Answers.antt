use Rattle.std.proofs.Common.{ℕ, sym, subst, arith}
use Rattle.capn_layout.specs.MessageSlots.{HasSlot}
use Rattle.capn_layout.specs.Ready.{IsReady}
use Rattle.capn_canon.proofs.calls.AtRoot.{root-ready}
use Rattle.capn_value.specs.Cost.{base}
use Rattle.capn_canon.proofs.theorem.Headline.{denoted_cost, denoted_length}
use Rattle.capn_canon.proofs.length.length_beyond.Goals as goal

pub returns-then-paid-room-clause-beyond : goal.returns-then-paid-room-clause-beyond
returns-then-paid-room-clause-beyond g c v h =
    let l = denoted_length c.args.space.now c.args.limits v c.bounds.ensures (omega arith) (omega arith) h in
    let p = c.requires.pays in
    let t = c.if-paid-room.true in
    omega arith

pub surveyed_length_counted-requires : goal.surveyed_length_counted-requires
surveyed_length_counted-requires g c =
    let m = c.args.space.now in
    let x = c.requires.value in
    subst (λ (d : ℕ). IsReady (HasSlot m) 0 0 d 1) (sym c.depth-depth.ensures.value)
    (root-ready m c.args.limits x.0 c.bounds.ensures (omega arith) (omega arith) x.1)

pub returns-then-length-room-clause-reads : goal.returns-then-length-room-clause-reads
returns-then-length-room-clause-reads g c =
    let x = c.requires.value in
    let cost = denoted_cost c.args.space.now c.args.limits x.0 c.bounds.ensures (omega arith) (omega arith) x.1 in
    let cheap = cost.0 in
    let pays = c.requires.pays in
    let size = c.surveyed_length_counted.ensures.reads x.0 x.1.is (base c.args.limits.tariff) in
    omega arith

pub returns-clause-reads : goal.returns-clause-reads
returns-clause-reads g c =
    let x = c.requires.value in
    let cost = denoted_cost c.args.space.now c.args.limits x.0 c.bounds.ensures (omega arith) (omega arith) x.1 in
    let cheap = cost.0 in
    let pays = c.requires.pays in
    let size = c.surveyed_length_counted.ensures.reads x.0 x.1.is (base c.args.limits.tariff) in
    omega arith
