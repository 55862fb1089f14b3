use Rattle.std.proofs.Common.{arith}
use Rattle.capn_pack.proofs.LaneLemmas.{pushed}
use Rattle.capn_pack.proofs.pack_group.push_named.Goals as goal

pub returns : goal.returns
returns g c =
    record {
      ok =
          pushed _ _ _ _ _ _ _ (omega arith) c.in_ok-extend_from_slice.ensures.items c.truncate.ensures.items
          c.gather.ensures;
    }
