use Rattle.std.proofs.Common.{ℕ, sym, subst, arith}
use Rattle.capn_layout.specs.MessageSlots.{HasSlot}
use Rattle.capn_layout.specs.Ready.{IsReady}
use Rattle.capn_canon.proofs.calls.AtRoot.{root-ready}
use Rattle.capn_canon.proofs.calls.IntoBuffers.{not_written}
use Rattle.capn_value.specs.Cost.{base}
use Rattle.capn_canon.proofs.theorem.Headline.{denoted_cost}
use Rattle.capn_canon.proofs.written_bytes.write_message.Goals as goal

pub surveyed_layout_into_counted-length-requires-clause-ready
    : goal.surveyed_layout_into_counted-length-requires-clause-ready
surveyed_layout_into_counted-length-requires-clause-ready g c =
    let m = c.args.space.now in
    let f = c.in_ok-surveyed.ensures.found.0 in
    subst (λ (d : ℕ). IsReady (HasSlot m) 0 0 d 1) (sym c.depth-depth.ensures.value)
    (root-ready m c.args.limits f.value c.bounds.ensures (omega arith) (omega arith) f.is)

pub returns-in_err-surveyed-clause-into : goal.returns-in_err-surveyed-clause-into
returns-in_err-surveyed-clause-into g c =
    not_written c.args.space.now c.args.limits c.args.out.now c.from_residual.result
    c.in_err-surveyed.field-0.0 c.from_residual.ensures.1 c.in_err-surveyed.ensures.refused
    c.in_err-surveyed.ensures.bounded

pub returns-clause-reads : goal.returns-clause-reads
returns-clause-reads g c =
    let f = c.in_ok-surveyed.ensures.found.0 in
    let cost = denoted_cost c.args.space.now c.args.limits f.value c.bounds.ensures (omega arith) (omega arith) f.is in
    let cheap = cost.0 in
    let within = cost.1 in
    let pays = f.pays in
    let few = c.in_ok-surveyed.ensures.bounded.few in
    let walk = c.in_ok-surveyed.ensures.reads in
    let work = c.in_ok-surveyed.ensures.work in
    let size = c.in_default.ensures.reads in
    let laid = c.surveyed_layout_into_counted-length.ensures.reads f.value f.is.is (base c.args.limits.tariff) in
    (omega arith, omega arith)
