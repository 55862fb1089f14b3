use Rattle.capn_explain.proofs.Reporters.{puts_accepted, puts_refused}
use Rattle.capn_explain.proofs.reporter.Reporter.report_known.Goals as goal

pub returns-in-Ok : goal.returns-in-Ok
returns-in-Ok g c =
    puts_accepted c.args.self.now c.report_accepted.new.self c.args.at (g.S.Space.message c.args.message.now)
    c.args.text.now.items c.report_accepted.result c.report_accepted.ensures

pub returns-in-Err : goal.returns-in-Err
returns-in-Err g c =
    puts_refused c.args.self.now c.report_refused.new.self c.args.at (g.S.Space.message c.args.message.now)
    c.args.text.now.items c.report_refused.new.text.items c.report_refused.result c.report_refused.ensures
