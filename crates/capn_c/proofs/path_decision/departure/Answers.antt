-- The clauses of `capn_departure` allow one status, one report and one mismatch, and status 8.
use Rattle.capn_abi.specs.Calls.{form_named, bounds_of}
use Rattle.capn_c.proofs.DecidedMismatch.{departure_clauses, departures_agree, in_limits, one_departed}
use Rattle.capn_c.proofs.path_decision.departure.Goals as goal

pub returns-clause-report : goal.returns-clause-report
returns-clause-report c =
    let form = form_named c.args.form in
    let bs = c.args.bytes.now in
    let limits = bounds_of c.args.limits.now in
    let a = c.capn_departure-one in
    let b = c.capn_departure-other in
    departures_agree c.mismatches.ensures form bs limits _ a.result b.result a.new.report b.new.report
    (departure_clauses form bs limits a.result a.new.report a.ensures.form a.ensures.limits a.ensures.tariff
    a.ensures.blank a.ensures.possible a.new.departed _ _ a.ensures.found a.ensures.refused)
    (departure_clauses form bs limits b.result b.new.report b.ensures.form b.ensures.limits b.ensures.tariff
    b.ensures.blank b.ensures.possible b.new.departed _ _ b.ensures.found b.ensures.refused)

pub returns-clause-departed : goal.returns-clause-departed
returns-clause-departed c e f =
    let form = form_named c.args.form in
    let bs = c.args.bytes.now in
    let limits = bounds_of c.args.limits.now in
    let a = c.capn_departure-one in
    let b = c.capn_departure-other in
    one_departed c.mismatches.ensures form bs limits a.new.departed b.new.departed a.new.report b.new.report _ _ _ _
    (in_limits form bs limits a.result a.new.report a.ensures.form a.ensures.limits a.ensures.tariff a.ensures.blank
    a.ensures.possible e) (a.ensures.found e) (b.ensures.found f)
