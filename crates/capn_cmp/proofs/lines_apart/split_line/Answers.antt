use Rattle.capn_cmp.proofs.Lines.{unbroken_next}
use Rattle.capn_cmp.proofs.lines_apart.split_line.Goals as goal

pub loop-at-preserved : goal.loop-at-preserved
loop-at-preserved c =
    unbroken_next c.args.bytes.now c.loop-at.at c.loop-at-test.true c.loop-at.invariant c.if-bytes-at-eq10.false
