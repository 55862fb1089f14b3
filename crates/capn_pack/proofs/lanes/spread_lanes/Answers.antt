use Rattle.std.proofs.Common.{arith, sym, subst, w8}
use Rattle.std.proofs.lemmas.Simd.{SwzOk}
use Rattle.capn_pack.proofs.LaneLemmas.{spread_all, spread_ok}
use Rattle.capn_pack.proofs.lanes.spread_lanes.Goals as goal

pub swizzle : goal.swizzle
swizzle c = subst (SwzOk w8 16 16 0) (sym c.spread_places-places.ensures) (spread_ok c.args.tag (omega arith))

pub returns-clause-named : goal.returns-clause-named
returns-clause-named c =
    (spread_all c.args.tag c.args.lanes c.spread_places-places.result (omega arith) c.fits-lanes.0
    c.spread_places-places.ensures).by

pub returns-clause-bytes : goal.returns-clause-bytes
returns-clause-bytes c =
    (spread_all c.args.tag c.args.lanes c.spread_places-places.result (omega arith) c.fits-lanes.0
    c.spread_places-places.ensures).bytes
