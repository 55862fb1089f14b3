use Rattle.capn_make.proofs.UnderWay.{come_last}
use Rattle.capn_make.proofs.input.ProgressSink.finish.Goals as goal

pub returns : goal.returns
returns g c = λ bytes x takes.
    c.end.ensures bytes x _ (come_last c.args.self.now.form bytes x _ _ _ _ _ takes)
