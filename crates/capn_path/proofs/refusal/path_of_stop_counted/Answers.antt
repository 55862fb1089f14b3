use Rattle.capn_path.proofs.Stopping.{refused-at}
use Rattle.capn_path.proofs.refusal.path_of_stop_counted.Goals as goal

pub returns-clause-path : goal.returns-clause-path
returns-clause-path g c =
    refused-at c.args.space.now c.args.limits c.args.stopped c.if-stopped-eq0.false
    c.in-Some.visited.path.items c.in-Some.visited.place c.requires.refused
    (rw c.in-Some.is at c.in_ok-visited.ensures.found)
