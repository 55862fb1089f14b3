use Rattle.capn_mismatch.proofs.FirstCapability.{some-found, index-is, is-first}
use Rattle.capn_mismatch.proofs.capability.first_capability.Goals as goal

pub unreachable-requires : goal.unreachable-requires
unreachable-requires g c =
    let s = c.requires.some in
    some-found (g.S.Space.message c.args.space.now) c.args.limits _ s.0 s.1 s.2 s.3
    (rw (c.in-None.is, c.depth.ensures.value) at c.in_ok-found.ensures.none)

pub returns-clause-found : goal.returns-clause-found
returns-clause-found g c =
    let s = c.requires.some in
    is-first (g.S.Space.message c.args.space.now) c.args.limits _ c.in-Some.found.1.items c.in-Some.found.0
    (rw (c.in-Some.is, c.depth.ensures.value) at c.in_ok-found.ensures.found) s.0 s.2

pub returns-clause-index : goal.returns-clause-index
returns-clause-index g c v i =
    index-is (g.S.Space.message c.args.space.now) c.args.limits _ c.in-Some.found.1.items c.in-Some.found.0
    (rw (c.in-Some.is, c.depth.ensures.value) at c.in_ok-found.ensures.found) v i
