use Rattle.std.proofs.Common.{ℕ, sym, subst, arith}
use Rattle.capn_layout.specs.MessageSlots.{HasSlot}
use Rattle.capn_layout.specs.Ready.{IsReady}
use Rattle.capn_value.specs.Cost.{base}
use Rattle.capn_canon.proofs.calls.AtRoot.{root-ready}
use Rattle.capn_canon.proofs.theorem.Headline.{denoted_cost}
use Rattle.capn_canon.proofs.comparison.same_beside.Goals as goal

pub surveyed_same_counted-requires-clause-one : goal.surveyed_same_counted-requires-clause-one
surveyed_same_counted-requires-clause-one g c =
    let h = c.requires in
    subst (λ (d : ℕ). IsReady (HasSlot c.args.a.now) 0 0 d 1) (sym c.depth-depth.ensures.value)
    (root-ready c.args.a.now c.args.limits h.0 c.bounds.ensures (omega arith) (omega arith) h.1)

pub surveyed_same_counted-requires-clause-two : goal.surveyed_same_counted-requires-clause-two
surveyed_same_counted-requires-clause-two g c =
    let h = c.in_ok-survey_side.ensures.found in
    subst (λ (d : ℕ). IsReady (HasSlot c.args.b.now) 0 0 d 1) (sym c.depth-depth.ensures.value)
    (root-ready c.args.b.now c.args.limits h.0 c.bounds-2.ensures (omega arith) (omega arith) h.1)

pub returns-clause-first : goal.returns-clause-first
returns-clause-first g c =
    let h = c.requires in
    let cost = denoted_cost c.args.a.now c.args.limits h.0 c.bounds.ensures (omega arith) (omega arith) h.1 in
    let cheap = cost.0 in
    let reads = c.surveyed_same_counted.ensures.first h.0 h.1.is (base c.args.limits.tariff) in
    omega arith

pub returns-clause-second : goal.returns-clause-second
returns-clause-second g c =
    let h = c.in_ok-survey_side.ensures.found in
    let cost = denoted_cost c.args.b.now c.args.limits h.0 c.bounds-2.ensures (omega arith) (omega arith) h.1 in
    let cheap = cost.0 in
    let within = cost.1 in
    let walk = c.in_ok-survey_side.ensures.reads in
    let reads = c.surveyed_same_counted.ensures.second h.0 h.1.is (base c.args.limits.tariff) in
    (omega arith, omega arith)
