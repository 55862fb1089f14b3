use Rattle.capn_explain.proofs.Accounts.{first_kept, not_positive}
use Rattle.capn_explain.proofs.reporter.first_of.Goals as goal

pub returns : goal.returns
returns g c =
    first_kept c.args.order.now.form c.args.at (g.S.Space.message c.args.message.now) c.args.order.now.limits
    c.account_of.result (not_positive c.args.at.index c.if-at-gt0.false) c.account_of.ensures.found
    c.account_of.ensures.memory
