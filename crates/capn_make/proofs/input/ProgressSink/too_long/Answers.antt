use Rattle.capn_make.proofs.UnderWay.{longer}
use Rattle.capn_make.proofs.input.ProgressSink.too_long.Goals as goal

pub returns-clause-long : goal.returns-clause-long
returns-clause-long g c = λ bytes piece more x y takes long.
    longer c.args.self.now.form bytes x y _ _ _ _ takes piece more long
