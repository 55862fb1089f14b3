-- The clauses of `capn_unpack_some` allow one status and one report for a length of the buffer, and status 8.
use Rattle.std.proofs.Common.{length, refl}
use Rattle.capn_c.proofs.DecidedPieces.{pieces_agree}
use Rattle.capn_c.proofs.packing_decision.unpack_some.Goals as goal

pub returns : goal.returns
returns c =
    let bs = c.args.bytes.now in
    let n = length c.args.out.now in
    let a = c.capn_unpack_some-one in
    let b = c.capn_unpack_some-other in
    pieces_agree bs n a.result b.result a.new.report b.new.report c.args.out.now a.new.out b.new.out refl a.auto.out
    a.ensures.some b.ensures.some
