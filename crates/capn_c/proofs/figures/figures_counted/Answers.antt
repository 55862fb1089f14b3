-- The result has the figures that the measure of the message gives.
use Rattle.capn_c.proofs.Figured.{figured}
use Rattle.capn_c.proofs.figures.figures_counted.Goals as goal

pub returns-in-Ok-clause-found : goal.returns-in-Ok-clause-found
returns-in-Ok-clause-found g c =
    let f = c.figures_by.ensures in
    figured c.args.space.now c.args.limits c.in-Ok.measured c.figures_by.result c.in-Ok.ensures.found
    (record {
      words = f.words;
      segments = f.segments;
      paid = f.paid;
      visits = f.visits;
      depth = f.depth;
      capability = f.capability;
      canonical = f.canonical;
      flags = f.flags;
    })
