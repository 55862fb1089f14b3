use Rattle.std.proofs.Common.{arith}
use Rattle.capn_pack.proofs.RowLemmas.{row_next}
use Rattle.capn_pack.proofs.unpack_block.fill_steps.Goals as goal

pub loop-left-preserved : goal.loop-left-preserved
loop-left-preserved c =
    let group = c.in-Some.ensures.gives in (
      row_next _ _ _ _ _ 8 group.0 _ (omega (arith, group.1.forward)) c.loop-left.invariant.0 group.1.takes,
      omega (arith, group.1.reach),
      omega (arith, c.in-Some.ensures.within),
      omega (arith, group.1.forward),
    )
