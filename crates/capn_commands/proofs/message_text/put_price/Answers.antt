use Rattle.capn_commands.proofs.MessagePuts.{price_put, price_stopped}
use Rattle.capn_commands.proofs.message_text.put_price.Goals as goal

pub returns : goal.returns
returns g c =
    price_put (g.S.Space.message c.args.space.now) c.args.limits c.in_ok-surveyed.surveyed
    c.in_ok-surveyed.ensures.found _ _ c.put_price_line.result c.put_price_line.ensures

pub returns-in_err-surveyed : goal.returns-in_err-surveyed
returns-in_err-surveyed g c =
    price_stopped (g.S.Space.message c.args.space.now) c.args.limits c.in_err-surveyed.field-0.0 c.args.text.now.items
    c.from_residual.result c.in_err-surveyed.ensures.refused c.in_err-surveyed.ensures.no_memory
    c.from_residual.ensures.1
