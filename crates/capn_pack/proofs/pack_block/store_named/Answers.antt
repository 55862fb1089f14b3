use Rattle.std.proofs.Common.{arith}
use Rattle.capn_pack.proofs.LaneLemmas.{stored, eight_ones}
use Rattle.capn_pack.proofs.pack_block.store_named.Goals as goal

pub returns-clause-text : goal.returns-clause-text
returns-clause-text c =
    stored _ c.gather.result _ _ _ _ _ _ (omega arith) (omega arith)
    (omega (arith, eight_ones c.args.tag (omega arith))) c.store.ensures c.gather.ensures
