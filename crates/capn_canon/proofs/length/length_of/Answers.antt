use Rattle.std.proofs.Common.{ℕ, sym, subst, arith}
use Rattle.capn_layout.specs.MessageSlots.{HasSlot}
use Rattle.capn_layout.specs.Ready.{IsReady}
use Rattle.capn_canon.proofs.calls.AtRoot.{root-ready}
use Rattle.capn_value.specs.Cost.{base}
use Rattle.capn_canon.proofs.theorem.Headline.{denoted_cost}
use Rattle.capn_canon.proofs.length.length_of.Goals as goal

pub surveyed_length_counted-requires : goal.surveyed_length_counted-requires
surveyed_length_counted-requires g c =
    let m = c.args.space.now in
    let f = c.in_ok-surveyed.ensures.found.0 in
    subst (λ (d : ℕ). IsReady (HasSlot m) 0 0 d 1) (sym c.depth-depth.ensures.value)
    (root-ready m c.args.limits f.value c.bounds.ensures (omega arith) (omega arith) f.is)

pub returns-clause-reads : goal.returns-clause-reads
returns-clause-reads g c =
    let f = c.in_ok-surveyed.ensures.found.0 in
    let cost = denoted_cost c.args.space.now c.args.limits f.value c.bounds.ensures (omega arith) (omega arith) f.is in
    let cheap = cost.0 in
    let within = cost.1 in
    let pays = f.pays in
    let few = c.in_ok-surveyed.ensures.bounded.few in
    let walk = c.in_ok-surveyed.ensures.reads in
    let work = c.in_ok-surveyed.ensures.work in
    let size = c.surveyed_length_counted.ensures.reads f.value f.is.is (base c.args.limits.tariff) in
    (omega arith, omega arith)
