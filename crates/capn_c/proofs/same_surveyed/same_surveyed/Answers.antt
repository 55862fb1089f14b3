-- Messages that have canonical bytes are ready to be compared, as deep as the limits allow.
use Rattle.std.proofs.Common.{ℕ, sym, subst, arith}
use Rattle.capn_value.specs.Cost.{base}
use Rattle.capn_layout.specs.MessageSlots.{HasSlot}
use Rattle.capn_layout.specs.Ready.{IsReady}
use Rattle.capn_c.proofs.Ready.{root-cheap, root-ready}
use Rattle.capn_c.proofs.same_surveyed.same_surveyed.Goals as goal

pub same_by_segments-requires-clause-first : goal.same_by_segments-requires-clause-first
same_by_segments-requires-clause-first g c =
    subst (λ (d : ℕ). IsReady (HasSlot c.args.first.now) 0 0 d 1) (sym c.depth-depth.ensures.value)
    (root-ready c.args.first.now c.args.limits c.bounds.ensures (omega arith) (omega arith) c.requires.one)

pub same_by_segments-requires-clause-second : goal.same_by_segments-requires-clause-second
same_by_segments-requires-clause-second g c =
    subst (λ (d : ℕ). IsReady (HasSlot c.args.second.now) 0 0 d 1) (sym c.depth-depth.ensures.value)
    (root-ready c.args.second.now c.args.limits c.bounds-2.ensures (omega arith) (omega arith) c.requires.other)

pub returns-clause-same : goal.returns-clause-same
returns-clause-same g c v w h k = c.same_by_segments.ensures.same v w h.is k.is

pub returns-clause-first : goal.returns-clause-first
returns-clause-first g c =
    let h = c.requires.one in
    let cheap = root-cheap c.args.first.now c.args.limits h.0 h.1 in
    let reads = c.same_by_segments.ensures.first h.0 h.1.is (base c.args.limits.tariff) in
    omega arith

pub returns-clause-second : goal.returns-clause-second
returns-clause-second g c =
    let h = c.requires.other in
    let cheap = root-cheap c.args.second.now c.args.limits h.0 h.1 in
    let reads = c.same_by_segments.ensures.second h.0 h.1.is (base c.args.limits.tariff) in
    omega arith
