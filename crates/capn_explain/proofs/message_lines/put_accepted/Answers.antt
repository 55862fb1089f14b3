use Rattle.capn_explain.proofs.Accounts.{puts_account}
use Rattle.capn_explain.proofs.message_lines.put_accepted.Goals as goal

pub returns : goal.returns
returns g c =
    puts_account c.args.order.now c.args.at (g.S.Space.message c.args.message.now) c.in_ok-account.account
    c.args.text.now.items c.put_account.new.text.items c.put_account.result c.in_ok-account.ensures.found
    c.put_account.ensures
