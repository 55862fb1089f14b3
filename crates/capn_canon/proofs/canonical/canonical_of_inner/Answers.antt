use Rattle.std.proofs.Common.{sym, arith, subst, ℕ}
use Rattle.std.proofs.lemmas.Result.{err_from_is_err_and}
use Rattle.capn_layout.specs.MessageSlots.{HasSlot}
use Rattle.capn_layout.specs.Ready.{IsReady}
use Rattle.capn_canon.proofs.calls.AtRoot.{root-ready}
use Rattle.capn_canon.proofs.calls.OfMessages.{not_canonicalised}
use Rattle.capn_value.specs.Cost.{base}
use Rattle.capn_canon.proofs.theorem.Headline.{denoted_cost, denoted_length}
use Rattle.capn_canon.proofs.canonical.canonical_of_inner.Goals as goal

pub surveyed_layout_counted-requires-clause-ready : goal.surveyed_layout_counted-requires-clause-ready
surveyed_layout_counted-requires-clause-ready g c =
    let m = c.args.space.now in
    let f = c.in_ok-surveyed.ensures.found.0 in
    subst (λ (d : ℕ). IsReady (HasSlot m) 0 0 d 1) (sym c.depth-depth.ensures.value)
    (root-ready m c.args.limits f.value c.bounds.ensures (omega arith) (omega arith) f.is)

pub surveyed_layout_counted-requires-clause-paid : goal.surveyed_layout_counted-requires-clause-paid
surveyed_layout_counted-requires-clause-paid g c v at =
    let f = c.in_ok-surveyed.ensures.found.0 in
    let l = denoted_length c.args.space.now c.args.limits v c.bounds.ensures
    (omega arith) (omega arith) (record { accepted = f.is.accepted; is = at }) in
    let p = f.pays in
    omega arith

pub returns-in_err-surveyed-clause-told : goal.returns-in_err-surveyed-clause-told
returns-in_err-surveyed-clause-told g c =
    not_canonicalised c.from_residual.result (λ a. a.bytes.items) (λ a. a.paid) c.args.space.now
    c.args.limits c.in_err-surveyed.field-0.0 c.from_residual.ensures.1 c.in_err-surveyed.ensures.refused
    c.in_err-surveyed.ensures.bounded

pub returns-clause-reads : goal.returns-clause-reads
returns-clause-reads g c =
    let f = c.in_ok-surveyed.ensures.found.0 in
    let cost = denoted_cost c.args.space.now c.args.limits f.value c.bounds.ensures (omega arith) (omega arith) f.is in
    let cheap = cost.0 in
    let within = cost.1 in
    let pays = f.pays in
    let few = c.in_ok-surveyed.ensures.bounded.few in
    let walk = c.in_ok-surveyed.ensures.reads in
    let work = c.in_ok-surveyed.ensures.work in
    let laid = c.in_ok-bytes.ensures.reads f.value f.is.is (base c.args.limits.tariff) in
    (omega arith, omega arith)

pub returns-in_err-bytes-clause-reads : goal.returns-in_err-bytes-clause-reads
returns-in_err-bytes-clause-reads g c =
    let f = c.in_ok-surveyed.ensures.found.0 in
    let cost = denoted_cost c.args.space.now c.args.limits f.value c.bounds.ensures (omega arith) (omega arith) f.is in
    let cheap = cost.0 in
    let within = cost.1 in
    let pays = f.pays in
    let walk = c.in_ok-surveyed.ensures.work in
    let laid = c.in_err-bytes.ensures.reads f.value f.is.is (base c.args.limits.tariff) in
    let e = err_from_is_err_and c.from_residual-in_err-bytes.result c.from_residual-in_err-bytes.ensures.1 in
    (rw e.1 tt, omega arith)
