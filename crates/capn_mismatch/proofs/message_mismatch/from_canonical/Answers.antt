use Rattle.std.proofs.Common.{ℕ, List, subst, sym, ◌∙◌, arith}
use Rattle.capn_words.specs.Message.{IsBare}
use Rattle.capn_layout.specs.Layout.{words}
use Rattle.capn_layout.specs.MessageSlots.{HasSlot}
use Rattle.capn_layout.specs.Ready.{IsReady}
use Rattle.capn_mismatch.proofs.Ready.{bare, no-answer, ready, short}
use Rattle.capn_mismatch.proofs.message_mismatch.from_canonical.Goals as goal

pub surveyed_layout-requires-clause-ready : goal.surveyed_layout-requires-clause-ready
surveyed_layout-requires-clause-ready g c =
    let m = g.S.Space.message c.args.space.now in
    let d = c.requires.mismatched.0 in
    let budget = rw c.budget-budget.ensures.value at c.budget-budget.ensures.within in
    let depth = rw c.depth.ensures.value at c.depth.ensures.within in
    subst (λ (n : ℕ). IsReady (HasSlot m) 0 0 n 1) (sym c.depth.ensures.value)
    (ready m c.args.limits c.segments-segments.ensures.bounds budget depth d.value d.is)

pub surveyed_layout-requires-clause-paid : goal.surveyed_layout-requires-clause-paid
surveyed_layout-requires-clause-paid g c v at =
    let m = g.S.Space.message c.args.space.now in
    let d = c.requires.mismatched.0 in
    let budget = rw c.budget-budget.ensures.value at c.budget-budget.ensures.within in
    let depth = rw c.depth.ensures.value at c.depth.ensures.within in
    let few = short m c.args.limits c.segments-segments.ensures.bounds budget depth v
    (record { accepted = d.is.accepted; is = at }) in
    let pays = c.requires.pays in
    omega arith

pub unreachable-requires : goal.unreachable-requires
unreachable-requires g c =
    let m = g.S.Space.message c.args.space.now in
    let d = c.requires.mismatched.0 in
    let budget = rw c.budget-budget.ensures.value at c.budget-budget.ensures.within in
    let depth = rw c.depth.ensures.value at c.depth.ensures.within in
    let laid = c.as_slice.ensures.value ∙ c.in_ok-bytes.ensures d.value d.is.is in
    let are = subst (λ (bs : List ℕ). IsBare bs (words d.value)) (sym laid)
    (bare m c.args.limits c.segments-segments.ensures.bounds budget depth d.value d.is) in
    no-answer c.new.result (words d.value) c.in-Err.field-0 c.in-Err.is (c.new.ensures.only (words d.value) are)
