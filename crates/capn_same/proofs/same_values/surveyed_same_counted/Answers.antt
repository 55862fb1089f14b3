use Rattle.std.proofs.Common.{arith}
use Rattle.capn_walk.specs.Accepted.{root}
use Rattle.capn_layout.proofs.shared.Counted.{weight-cost, at-slot}
use Rattle.capn_same.proofs.same_values.surveyed_same_counted.Goals as goal

pub returns-clause-first : goal.returns-clause-first
returns-clause-first g c v h base =
    let o = c.requires.one.is in
    let r = c.is_same_slot.ensures.first v (at-slot c.args.a.now 0 0 v o.message o.exists o.place h) in
    let w = weight-cost c.args.a.now base v root h in
    omega arith

pub returns-clause-second : goal.returns-clause-second
returns-clause-second g c v h base =
    let o = c.requires.two.is in
    let r = c.is_same_slot.ensures.second v (at-slot c.args.b.now 0 0 v o.message o.exists o.place h) in
    let w = weight-cost c.args.b.now base v root h in
    omega arith
