use Rattle.std.proofs.Common.{arith}
use Rattle.capn_pack.proofs.PutLemmas.{puts_more}
use Rattle.capn_pack.proofs.pack_block.store_groups.Goals as goal

pub loop-at-preserved : goal.loop-at-preserved
loop-at-preserved c =
    (puts_more _ _ _ _ _ _ _ c.loop-at.invariant.0 c.in-Some.ensures.some, omega (arith, c.in-Some.ensures.within))
