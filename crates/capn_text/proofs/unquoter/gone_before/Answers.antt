use Rattle.std.proofs.Common.{arith}
use Rattle.capn_text.proofs.Unquotings.{gone_more}
use Rattle.capn_text.proofs.unquoter.gone_before.Goals as goal

pub loop-i-preserved : goal.loop-i-preserved
loop-i-preserved c =
    gone_more c.args.digits.now c.loop-i.i c.args.line c.loop-i-test.true (omega arith) c.loop-i.invariant
