use Rattle.std.proofs.Common.{add-one}
use Rattle.capn_lines.proofs.Counted.{up-to-at}
use Rattle.capn_lines.proofs.word_counts.with_segment.Goals as goal

pub with_word-more-requires-clause-few : goal.with_word-more-requires-clause-few
with_word-more-requires-clause-few g c =
    let m = g.S.Space.message c.args.space.now in
    rw c.loop-word.invariant (up-to-at m c.args.words.now c.args.segment c.loop-word.word c.args.sum c.requires.few)

pub loop-word-preserved : goal.loop-word-preserved
loop-word-preserved g c =
    rw (add-one, ← c.loop-word.invariant) c.with_word-more.ensures
