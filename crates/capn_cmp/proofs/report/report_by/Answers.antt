use Rattle.capn_cmp.proofs.Reports.{report_from}
use Rattle.capn_cmp.proofs.report.report_by.Goals as goal

pub returns-in_ok-report-in-Some-clause-found : goal.returns-in_ok-report-in-Some-clause-found
returns-in_ok-report-in-Some-clause-found g c =
    report_from c.args.at c.args.first.now c.args.bytes.now c.args.text.now c.args.other.now c.in-Some.line.now
    c.in-Some.other_line.now c.in_ok-report-in-Some.report.items c.requires.shown c.requires.also c.in-Some.ensures
    c.in_ok-report-in-Some.ensures.found
