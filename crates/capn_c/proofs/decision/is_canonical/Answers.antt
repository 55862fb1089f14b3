-- The clauses of `capn_is_canonical` allow one status and one report.
use Rattle.capn_abi.specs.Calls.{bounds_of}
use Rattle.capn_c.proofs.DecidedAnswers.{verdict_clauses, verdicts_agree}
use Rattle.capn_c.proofs.decision.is_canonical.Goals as goal

pub returns : goal.returns
returns c =
    let bs = c.args.bytes.now in
    let limits = bounds_of c.args.limits.now in
    let a = c.capn_is_canonical-one in
    let b = c.capn_is_canonical-other in
    verdicts_agree bs limits _ a.result b.result a.new.report b.new.report
    (verdict_clauses bs a.result a.new.report a.ensures.limits a.ensures.tariff limits a.ensures.blank
    a.ensures.possible a.ensures.yes a.ensures.no a.ensures.refused)
    (verdict_clauses bs b.result b.new.report b.ensures.limits b.ensures.tariff limits b.ensures.blank
    b.ensures.possible b.ensures.yes b.ensures.no b.ensures.refused)
