use Rattle.capn_text.proofs.PlainLines.{quiet_more}
use Rattle.capn_text.proofs.plain_form.next_line.Goals as goal

pub loop-i-preserved : goal.loop-i-preserved
loop-i-preserved c =
    quiet_more c.args.text.now c.loop-i.i c.loop-i-test.true c.if-text-i-eq10.false c.loop-i.invariant
