use Rattle.std.proofs.Common.{[], ◌∷◌}
use Rattle.capn_value.specs.Cost.{base}
use Rattle.capn_walk.specs.Accepted.{root}
use Rattle.capn_mismatch.specs.Owner.{place}
use Rattle.capn_mismatch.proofs.Reaching.{reaches-met}
use Rattle.capn_mismatch.proofs.owner.slot_of.Goals as goal

pub returns-in-Some : goal.returns-in-Some
returns-in-Some g c =
    let h = rw (c.in-Some.is, c.depth.ensures.value, c.new-path.ensures.items) at c.in_ok-found.ensures in
    h (base c.args.limits.tariff)

pub unreachable-requires : goal.unreachable-requires
unreachable-requires g c =
    let h = rw (c.in-None-2.is, c.depth-2.ensures.value) at c.in_ok-found-2.ensures.none in
    let p = h (base c.args.limits.tariff) in
    c.requires.owned p.0 p.1

pub returns : goal.returns
returns g c =
    let h = rw (c.in-Some-2.is, c.depth-2.ensures.value) at c.in_ok-found-2.ensures.found in
    let x = c.in-Some-2.found in
    reaches-met (c.args.canonical.now ∷ []) (base c.args.limits.tariff) (place c.args.word) c.args.limits.depth root
    x.1.items x.0 (h (base c.args.limits.tariff))
