use Rattle.capn_words.specs.Message.{segment_at}
use Rattle.capn_mismatch.proofs.Leaving.{has-owner, not-short}
use Rattle.capn_mismatch.proofs.message_mismatch.apart.Goals as goal

pub owner-requires-clause-owned : goal.owner-requires-clause-owned
owner-requires-clause-owned g c =
    let m = g.S.Space.message c.args.space.now in
    let budget = rw c.budget-budget.ensures.value at c.budget-budget.ensures.within in
    let depth = rw c.depth-depth.ensures.value at c.depth-depth.ensures.within in
    has-owner m c.args.limits (segment_at m 0) c.args.canonical.now c.segments-segments.ensures.bounds budget depth
    c.requires.compares c.in-Word.word c.in-Word.is' c.in-Word.other c.in-Word.ensures

pub unreachable-requires-in-Short : goal.unreachable-requires-in-Short
unreachable-requires-in-Short g c =
    let m = g.S.Space.message c.args.space.now in
    let budget = rw c.budget-budget.ensures.value at c.budget-budget.ensures.within in
    let depth = rw c.depth-depth.ensures.value at c.depth-depth.ensures.within in
    not-short m c.args.limits (segment_at m 0) c.args.canonical.now c.segments-segments.ensures.bounds budget depth
    c.requires.compares c.in-Short.word c.in-Short.other c.in-Short.ensures
