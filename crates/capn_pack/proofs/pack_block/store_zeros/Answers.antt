use Rattle.capn_pack.proofs.PutLemmas.{puts_zeros}
use Rattle.capn_pack.proofs.pack_block.store_zeros.Goals as goal

pub returns-clause-some : goal.returns-clause-some
returns-clause-some c =
    puts_zeros c.args.bytes.now c.args.at c.zero_run-more.result _ _ c.requires.inside c.requires.tag
    c.zero_run-more.ensures.run c.zero_run-more.ensures.last c.store_pair.ensures
