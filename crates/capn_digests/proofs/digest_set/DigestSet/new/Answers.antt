use Rattle.capn_digests.proofs.Sets.{indexed_none}
use Rattle.capn_digests.proofs.digest_set.DigestSet.new.Goals as goal

pub invariant_of-result : goal.invariant_of-result
invariant_of-result g c =
    indexed_none _ _ _ _ c.new.ensures.items c.new-2.ensures.items c.new-3.ensures.items c.new-4.ensures.empty
