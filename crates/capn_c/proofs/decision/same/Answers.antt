-- The clauses of `capn_same` allow one status and one report, and status 8.
use Rattle.capn_abi.specs.Calls.{form_named, bounds_of}
use Rattle.capn_c.proofs.DecidedText.{comparison_clauses, comparisons_agree}
use Rattle.capn_c.proofs.decision.same.Goals as goal

pub returns : goal.returns
returns c =
    let form = form_named c.args.form in
    let one = c.args.message.now in
    let other = c.args.compared.now in
    let limits = bounds_of c.args.limits.now in
    let a = c.capn_same-one in
    let b = c.capn_same-other in
    comparisons_agree form one other limits _ a.result b.result a.new.report b.new.report
    (comparison_clauses form one other limits a.result a.new.report a.new.which a.ensures.form a.ensures.limits
    a.ensures.tariff a.ensures.blank a.ensures.same a.ensures.different a.ensures.refused a.ensures.second)
    (comparison_clauses form one other limits b.result b.new.report b.new.which b.ensures.form b.ensures.limits
    b.ensures.tariff b.ensures.blank b.ensures.same b.ensures.different b.ensures.refused b.ensures.second)
