use Rattle.capn_path.proofs.Stopping.{refused-at}
use Rattle.capn_path.proofs.refusal.path_of_stop.Goals as goal

pub returns : goal.returns
returns g c =
    refused-at (g.S.Space.message c.args.space.now) c.args.limits c.args.stopped c.if-stopped-eq0.false
    c.in-Some.visited.path.items c.in-Some.visited.place c.requires.refused
    (rw c.in-Some.is at c.in_ok-visited.ensures.found)
