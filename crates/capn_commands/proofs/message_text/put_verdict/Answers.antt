use Rattle.capn_commands.proofs.Verdicts.{verdict_no, verdict_stopped, verdict_yes}
use Rattle.capn_commands.proofs.message_text.put_verdict.Goals as goal

pub returns-then-checked : goal.returns-then-checked
returns-then-checked g c =
    verdict_yes c.args.space.now c.args.limits c.in_ok-checked.checked c.in_ok-checked.ensures.found _ _
    c.put_priced.result c.if-checked.true c.put_priced.ensures

pub returns : goal.returns
returns g c =
    verdict_no c.args.space.now c.args.limits c.in_ok-checked.checked c.in_ok-checked.ensures.found _ _
    c.put_priced-2.result c.if-checked.false c.put_priced-2.ensures

pub returns-in_err-checked : goal.returns-in_err-checked
returns-in_err-checked g c =
    verdict_stopped c.args.space.now c.args.limits c.in_err-checked.field-0.0 c.args.text.now.items
    c.from_residual.result c.in_err-checked.ensures.refused c.in_err-checked.ensures.no_memory
    c.from_residual.ensures.1
