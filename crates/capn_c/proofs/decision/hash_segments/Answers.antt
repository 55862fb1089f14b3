-- The clauses of `capn_hash_segments` allow one status and one report, and status 8.
use Rattle.capn_stream.specs.Segments.{message_of}
use Rattle.capn_abi.specs.Calls.{bounds_of}
use Rattle.capn_c.proofs.DecidedHeld.{held_prices_agree, price_held_clauses}
use Rattle.capn_c.proofs.decision.hash_segments.Goals as goal

pub returns : goal.returns
returns c =
    let m = message_of c.args.segments.now in
    let limits = bounds_of c.args.limits.now in
    let a = c.capn_hash_segments-one in
    let b = c.capn_hash_segments-other in
    held_prices_agree m limits _ a.result b.result a.new.report b.new.report
    (price_held_clauses m limits a.result a.new.report a.ensures.limits a.ensures.tariff a.ensures.blank
    a.ensures.possible a.new.digest a.ensures.found a.ensures.rest a.ensures.refused)
    (price_held_clauses m limits b.result b.new.report b.ensures.limits b.ensures.tariff b.ensures.blank
    b.ensures.possible b.new.digest b.ensures.found b.ensures.rest b.ensures.refused)
