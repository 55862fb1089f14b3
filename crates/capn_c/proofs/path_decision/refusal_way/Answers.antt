-- The clauses of `capn_refusal_way` allow one status and one report, and status 8.
use Rattle.capn_abi.specs.Calls.{form_named, bounds_of}
use Rattle.capn_c.proofs.DecidedPath.{way_clauses, ways_agree}
use Rattle.capn_c.proofs.path_decision.refusal_way.Goals as goal

pub returns : goal.returns
returns c =
    let form = form_named c.args.form in
    let bs = c.args.bytes.now in
    let limits = bounds_of c.args.limits.now in
    let a = c.capn_refusal_way-one in
    let b = c.capn_refusal_way-other in
    ways_agree c.paths.ensures form bs limits _ a.result b.result a.new.report b.new.report
    (way_clauses form bs limits a.result a.new.report a.ensures.form a.ensures.limits a.ensures.tariff a.ensures.blank
    a.ensures.possible _ _ a.ensures.found a.ensures.refused a.ensures.told)
    (way_clauses form bs limits b.result b.new.report b.ensures.form b.ensures.limits b.ensures.tariff b.ensures.blank
    b.ensures.possible _ _ b.ensures.found b.ensures.refused b.ensures.told)
