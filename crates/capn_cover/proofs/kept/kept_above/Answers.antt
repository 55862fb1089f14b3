use Rattle.std.proofs.Common.{◌≢◌, ◌+◌, ◌-◌, ◌∙◌, slice_index}
use Rattle.capn_words.specs.Message.{segment_at}
use Rattle.capn_layout.proofs.shared.Cut.{kept-found, kept-least}
use Rattle.capn_cover.proofs.kept.kept_above.Goals as goal

pub returns-then-word-ne0 : goal.returns-then-word-ne0
returns-then-word-ne0 g c =
    let seg = segment_at (g.S.Space.message c.args.space.now) c.args.at.segment in
    let ne : slice_index (segment_at (g.S.Space.message c.args.space.now) c.args.at.segment)
    (c.args.at.word + (c.loop-kept.kept - 1)) ≢ 0 = λ z. c.if-word-ne0.true (c.word.ensures ∙ z) in
    kept-found seg c.args.at.word c.args.count c.args.least c.loop-kept.kept c.loop-kept-test.true
    c.loop-kept.invariant.high c.loop-kept.invariant.zeros ne

pub returns : goal.returns
returns g c =
    kept-least (segment_at (g.S.Space.message c.args.space.now) c.args.at.segment) c.args.at.word c.args.count
    c.args.least c.loop-kept.kept c.loop-kept-test.false c.loop-kept.invariant.low c.loop-kept.invariant.zeros
