-- The clauses of `capn_pack` allow one status and one report for a length of the buffer, and status 8.
use Rattle.std.proofs.Common.{length, refl, ◌∙◌}
use Rattle.capn_c.proofs.DecidedPacked.{pack_clauses, packs_agree}
use Rattle.capn_c.proofs.packing_decision.pack.Goals as goal

pub returns : goal.returns
returns c =
    let bs = c.args.bytes.now in
    let n = length c.args.out.now in
    let a = c.capn_pack-one in
    let b = c.capn_pack-other in
    packs_agree bs n a.ensures.unique a.result b.result a.new.report b.new.report
    (pack_clauses bs n a.result a.new.report c.args.out.now a.new.out refl a.auto.out a.ensures.found a.ensures.whole
    a.ensures.not_whole a.ensures.rest)
    (pack_clauses bs n b.result b.new.report a.new.out b.new.out a.auto.out (b.auto.out ∙ a.auto.out) b.ensures.found
    b.ensures.whole b.ensures.not_whole b.ensures.rest)
