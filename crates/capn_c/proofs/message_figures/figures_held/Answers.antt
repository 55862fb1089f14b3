-- The figures of a message are also the figures of the segments that hold the message.
use Rattle.capn_stream.specs.Segments.{message_of}
use Rattle.capn_c.proofs.FiguresTold.{figures_of_held}
use Rattle.capn_c.proofs.message_figures.figures_held.Goals as goal

pub returns : goal.returns
returns c = figures_of_held (message_of c.args.segments.now) c.args.limits _ c.run_held.result _ c.run_held.ensures
