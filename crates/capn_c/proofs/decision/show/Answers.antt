-- The clauses of `capn_show` allow one status and one report for a length of the buffer, and status 8.
use Rattle.std.proofs.Common.{length, refl, ◌∙◌}
use Rattle.capn_abi.specs.Calls.{form_named, bounds_of}
use Rattle.capn_abi.specs.Styles.{style_named}
use Rattle.capn_c.proofs.DecidedText.{shown_agree, shown_clauses}
use Rattle.capn_c.proofs.decision.show.Goals as goal

pub returns : goal.returns
returns c =
    let form = form_named c.args.form in
    let bs = c.args.bytes.now in
    let limits = bounds_of c.args.limits.now in
    let style = style_named c.args.style in
    let n = length c.args.out.now in
    let a = c.capn_show-one in
    let b = c.capn_show-other in
    shown_agree form bs limits style n _ a.result b.result a.new.report b.new.report
    (shown_clauses form bs limits style n a.result a.new.report a.ensures.form a.ensures.limits a.ensures.tariff
    a.ensures.style a.ensures.blank c.args.out.now a.new.out refl a.auto.out a.ensures.found a.ensures.rest
    a.ensures.refused)
    (shown_clauses form bs limits style n b.result b.new.report b.ensures.form b.ensures.limits b.ensures.tariff
    b.ensures.style b.ensures.blank a.new.out b.new.out a.auto.out (b.auto.out ∙ a.auto.out) b.ensures.found
    b.ensures.rest b.ensures.refused)
