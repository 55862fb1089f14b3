use Rattle.std.proofs.Common.{◌≢◌, ◌+◌, ◌-◌, ◌∙◌, slice_index}
use Rattle.capn_words.specs.Message.{segment_at}
use Rattle.capn_layout.proofs.shared.Cut.{kept-found, kept-least}
use Rattle.capn_layout.proofs.kept.kept_below.Goals as goal

pub returns-then-word-ne0-clause-kept : goal.returns-then-word-ne0-clause-kept
returns-then-word-ne0-clause-kept g c =
    let seg = segment_at c.args.space c.args.at.segment in
    let ne : slice_index (segment_at c.args.space c.args.at.segment)
    (c.args.at.word + (c.loop-kept.kept - 1)) ≢ 0 = λ z. c.if-word-ne0.true (c.word.ensures.word ∙ z) in
    kept-found seg c.args.at.word c.args.count c.args.least c.loop-kept.kept c.loop-kept-test.true
    c.loop-kept.invariant.high c.loop-kept.invariant.zeros ne

pub returns-clause-kept : goal.returns-clause-kept
returns-clause-kept g c =
    kept-least (segment_at c.args.space c.args.at.segment) c.args.at.word c.args.count c.args.least c.loop-kept.kept
    c.loop-kept-test.false c.loop-kept.invariant.low c.loop-kept.invariant.zeros
