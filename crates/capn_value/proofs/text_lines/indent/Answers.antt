use Rattle.std.proofs.Common.{arith, string_bytes}
use Rattle.capn_value.proofs.Digits.{indented_more, indented}
use Rattle.capn_value.proofs.text_lines.indent.Goals as goal

pub loop-i-preserved : goal.loop-i-preserved
loop-i-preserved g c =
    indented_more (string_bytes c.args.out.now) (string_bytes c.loop-i.out) _ c.loop-i._i c.loop-i.invariant
    c.in_ok-push_str.ensures.bytes

pub returns : goal.returns
returns g c =
    indented (string_bytes c.args.out.now) (string_bytes c.loop-i.out) c.loop-i._i c.args.level (omega arith)
    c.loop-i.invariant
