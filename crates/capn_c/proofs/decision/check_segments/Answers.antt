-- The clauses of `capn_check_segments` allow one status and one report.
use Rattle.capn_stream.specs.Segments.{message_of}
use Rattle.capn_abi.specs.Calls.{bounds_of}
use Rattle.capn_c.proofs.DecidedHeld.{held_surveys_agree, survey_held_clauses}
use Rattle.capn_c.proofs.decision.check_segments.Goals as goal

pub returns : goal.returns
returns c =
    let m = message_of c.args.segments.now in
    let limits = bounds_of c.args.limits.now in
    let a = c.capn_check_segments-one in
    let b = c.capn_check_segments-other in
    held_surveys_agree m limits _ a.result b.result a.new.report b.new.report
    (survey_held_clauses m limits a.result a.new.report a.ensures.limits a.ensures.tariff a.ensures.blank
    a.ensures.possible a.ensures.found a.ensures.refused)
    (survey_held_clauses m limits b.result b.new.report b.ensures.limits b.ensures.tariff b.ensures.blank
    b.ensures.possible b.ensures.found b.ensures.refused)
