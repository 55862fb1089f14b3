use Rattle.std.proofs.Common.{arith}
use Rattle.capn_pack.proofs.RowLemmas.{row_next}
use Rattle.capn_pack.proofs.unpack_block.fill_rest.Goals as goal

pub loop-at-preserved : goal.loop-at-preserved
loop-at-preserved c =
    let group = c.in-Some.ensures.gives in (
      row_next _ _ _ _ _ 8 group.0 _ (omega (arith, group.1.forward)) c.loop-at.invariant.0 group.1.takes,
      c.in-Some.ensures.within,
    )
