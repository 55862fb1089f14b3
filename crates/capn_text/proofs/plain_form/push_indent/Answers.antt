use Rattle.std.proofs.Common.{arith}
use Rattle.capn_text.proofs.PlainLines.{indented_more, indented}
use Rattle.capn_text.proofs.plain_form.push_indent.Goals as goal

pub loop-i-preserved : goal.loop-i-preserved
loop-i-preserved g c =
    indented_more c.args.out.now.items c.loop-i.out.items _ c.loop-i._i c.loop-i.invariant
    c.in_ok-extend_from_slice.ensures.items

pub returns : goal.returns
returns g c =
    indented c.args.out.now.items c.loop-i.out.items c.loop-i._i c.args.level (omega arith) c.loop-i.invariant
