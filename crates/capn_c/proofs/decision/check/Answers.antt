-- The clauses of `capn_check` allow one status and one report, and status 8.
use Rattle.capn_abi.specs.Calls.{form_named, bounds_of}
use Rattle.capn_c.proofs.DecidedAnswers.{survey_clauses, surveys_agree}
use Rattle.capn_c.proofs.decision.check.Goals as goal

pub returns : goal.returns
returns c =
    let form = form_named c.args.form in
    let bs = c.args.bytes.now in
    let limits = bounds_of c.args.limits.now in
    let a = c.capn_check-one in
    let b = c.capn_check-other in
    surveys_agree form bs limits _ a.result b.result a.new.report b.new.report
    (survey_clauses form bs limits a.result a.new.report a.ensures.form a.ensures.limits a.ensures.tariff
    a.ensures.blank a.ensures.possible a.ensures.found a.ensures.refused)
    (survey_clauses form bs limits b.result b.new.report b.ensures.form b.ensures.limits b.ensures.tariff
    b.ensures.blank b.ensures.possible b.ensures.found b.ensures.refused)
