use Rattle.std.proofs.Common.{[], refl, arith}
use Rattle.capn_text.proofs.PlainLines.{line_more, line_last}
use Rattle.capn_text.proofs.PlainTexts.{plain_is}
use Rattle.capn_text.proofs.plain_form.plain_text.Goals as goal

pub loop-line-preserved : goal.loop-line-preserved
loop-line-preserved g c =
    line_more c.loop-line.out.items c.push_plain.new.out.items c.args.text.now c.loop-line.rest.now c.in-Some.line.now
    c.in-Some.after.now c.loop-line.invariant c.in-Some.ensures.0 c.in-Some.ensures.1 c.in_ok-_quoted.ensures.added

pub returns : goal.returns
returns g c =
    let whole = line_last c.loop-line.out.items c.extend_from_slice.new.self.items c.args.text.now c.loop-line.rest.now
    c.loop-line.invariant c.in_default.ensures c.in_ok-extend_from_slice.ensures.items in
    record { found = rw whole (plain_is [] c.args.text.now refl (omega arith)); memory = tt }
