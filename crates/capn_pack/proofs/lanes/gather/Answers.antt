use Rattle.std.proofs.Common.{arith, sym, subst, w8}
use Rattle.std.proofs.lemmas.Simd.{SwzOk}
use Rattle.capn_pack.proofs.LaneLemmas.{gather_all, gather_ok}
use Rattle.capn_pack.proofs.lanes.gather.Goals as goal

pub swizzle : goal.swizzle
swizzle c = subst (SwzOk w8 16 16 0) (sym c.gather_places-places.ensures) (gather_ok c.args.tag (omega arith))

pub returns : goal.returns
returns c = gather_all c.args.tag c.args.word c.widened-lanes.result c.gather_places-places.result (omega arith)
    (omega arith) c.widened-lanes.ensures c.gather_places-places.ensures
