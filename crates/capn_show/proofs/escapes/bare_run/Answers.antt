use Rattle.std.proofs.Common.{sym, ◌∙◌}
use Rattle.capn_show.proofs.TextBytes.{bare-more}
use Rattle.capn_show.proofs.escapes.bare_run.Goals as goal

pub loop-i-preserved : goal.loop-i-preserved
loop-i-preserved c =
    bare-more c.args.bytes.now c.loop-i.i c.loop-i-test.true (sym c.is_escaped.ensures ∙
    c.if-is_escaped.false)
    c.loop-i.invariant
