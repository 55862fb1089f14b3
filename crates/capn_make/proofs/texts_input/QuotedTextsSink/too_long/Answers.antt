use Rattle.capn_make.proofs.UnderTexts.{longer}
use Rattle.capn_make.proofs.texts_input.QuotedTextsSink.too_long.Goals as goal

pub returns-clause-long : goal.returns-clause-long
returns-clause-long g c = λ bytes piece more x y takes long.
    longer c.args.self.now.texts.form bytes x y _ _ _ _ _ takes piece more long
