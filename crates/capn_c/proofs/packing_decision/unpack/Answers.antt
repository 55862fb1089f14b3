-- The clauses of `capn_unpack` allow one status and one report for a length of the buffer, and status 8.
use Rattle.std.proofs.Common.{length, refl, ◌∙◌}
use Rattle.capn_c.proofs.DecidedPacked.{unpack_clauses, unpacks_agree}
use Rattle.capn_c.proofs.packing_decision.unpack.Goals as goal

pub returns : goal.returns
returns c =
    let bs = c.args.bytes.now in
    let most = c.args.max_words in
    let n = length c.args.out.now in
    let a = c.capn_unpack-one in
    let b = c.capn_unpack-other in
    unpacks_agree bs most n a.result b.result a.new.report b.new.report
    (unpack_clauses bs most n a.result a.new.report c.args.out.now a.new.out refl a.auto.out a.ensures.found
    a.ensures.rest a.ensures.refused)
    (unpack_clauses bs most n b.result b.new.report a.new.out b.new.out a.auto.out (b.auto.out ∙ a.auto.out)
    b.ensures.found b.ensures.rest b.ensures.refused)
