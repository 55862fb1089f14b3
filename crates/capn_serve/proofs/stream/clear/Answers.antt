use Rattle.capn_serve.proofs.Next.{cleared}
use Rattle.capn_serve.proofs.stream.clear.Goals as goal

pub returns : goal.returns
returns g c =
    cleared c.args.framer.now c.take-served.result c.take-served.new.self c.requires.good c.requires.whole
    c.take-served.ensures
