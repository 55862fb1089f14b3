-- The clauses of `capn_first` allow one status and one report, and status 8.
use Rattle.capn_c.proofs.DecidedAnswers.{length_clauses, lengths_agree}
use Rattle.capn_c.proofs.decision.first_frame.Goals as goal

pub returns : goal.returns
returns c =
    let bs = c.args.bytes.now in
    let most = c.args.limits.now.message_words in
    let a = c.capn_first-one in
    let b = c.capn_first-other in
    lengths_agree bs most _ a.result b.result a.new.report b.new.report
    (length_clauses bs a.result a.new.report a.ensures.limits a.ensures.tariff most a.ensures.blank
    a.ensures.possible a.ensures.found a.ensures.rest a.ensures.refused)
    (length_clauses bs b.result b.new.report b.ensures.limits b.ensures.tariff most b.ensures.blank
    b.ensures.possible b.ensures.found b.ensures.rest b.ensures.refused)
