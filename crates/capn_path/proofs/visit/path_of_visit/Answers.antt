use Rattle.capn_path.proofs.Stopping.{visited, not-visited}
use Rattle.capn_path.proofs.visit.path_of_visit.Goals as goal

pub returns-in-Some-clause-found : goal.returns-in-Some-clause-found
returns-in-Some-clause-found g c =
    visited (g.S.Space.message c.args.space.now) c.args.limits c.args.number c.in-Some.path.items c.in-Some.place
    (rw (c.in-Some.is, c.depth.ensures.value) at c.in_ok-place.ensures.found)

pub returns-in-None-clause-none : goal.returns-in-None-clause-none
returns-in-None-clause-none g c =
    not-visited (g.S.Space.message c.args.space.now) c.args.limits c.args.number
    (rw (c.in-None.is, c.depth.ensures.value) at c.in_ok-place.ensures.none)
