use Rattle.capn_text.specs.inner.Tokens.{indent_at}
use Rattle.capn_text.proofs.Loops.{indent_more}
use Rattle.capn_text.proofs.tokens.indent_at.Goals as goal

pub loop-preserved : goal.loop-preserved
loop-preserved c =
    indent_more c.args.level c.loop.counter c.loop.rest.now c.in_ok-after.after.now
    (indent_at c.args.level c.args.text.now) c.loop-test.true c.in_ok-after.ensures c.loop.invariant
