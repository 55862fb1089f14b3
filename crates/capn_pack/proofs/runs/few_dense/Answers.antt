use Rattle.std.proofs.Common.{arith}
use Rattle.capn_pack.proofs.RunLemmas.{dense_more, no_word, not_dense}
use Rattle.capn_pack.proofs.runs.few_dense.Goals as goal

pub returns-then-tag-lt7-clause-last : goal.returns-then-tag-lt7-clause-last
returns-then-tag-lt7-clause-last c less d = not_dense _ (rw (c.tag.ensures, c.word_at.ensures) at c.if-tag-lt7.true) d

pub loop-count-preserved : goal.loop-count-preserved
loop-count-preserved c =
    dense_more _ _ _ _ c.loop-count.invariant (omega arith) (omega arith)
    (rw (c.tag.ensures, c.word_at.ensures) at c.if-tag-lt7.false)

pub returns-else-start-count-clause-last : goal.returns-else-start-count-clause-last
returns-else-start-count-clause-last c less d =
    omega (arith, d.0, no_word c.args.bytes.now _ c.loop-count.invariant.inside c.if-start-count.false)
