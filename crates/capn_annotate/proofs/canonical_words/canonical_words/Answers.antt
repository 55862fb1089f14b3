use Rattle.std.proofs.Common.{ℕ, subst, sym}
use Rattle.capn_layout.specs.MessageSlots.{HasSlot}
use Rattle.capn_layout.specs.Ready.{IsReady}
use Rattle.capn_annotate.proofs.Ready.{ready}
use Rattle.capn_annotate.proofs.canonical_words.canonical_words.Goals as goal

pub surveyed_length-requires : goal.surveyed_length-requires
surveyed_length-requires g c =
    let m = g.S.Space.message c.args.space.now in
    let s = c.requires.survey in
    let budget = rw c.budget-budget.ensures.value at c.budget-budget.ensures.within in
    let depth = rw c.depth.ensures.value at c.depth.ensures.within in
    subst (λ (n : ℕ). IsReady (HasSlot m) 0 0 n 1) (sym c.depth.ensures.value)
    (ready m c.args.limits s.value c.segments-segments.ensures.bounds budget depth s.is)
