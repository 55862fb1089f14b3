use Rattle.capn_make.proofs.OneBare.{one_bare}
use Rattle.capn_make.proofs.ShownTexts.{one_making, one_text}
use Rattle.capn_make.proofs.laws.making.Goals as goal

pub returns-clause-one : goal.returns-clause-one
returns-clause-one c =
    one_making c.texts.ensures.apart c.texts.ensures.showable c.refusals.ensures.high c.refusals.ensures.wrong
    c.refusals.ensures.deep

pub returns-clause-bare : goal.returns-clause-bare
returns-clause-bare c =
    one_bare c.texts.ensures.apart c.texts.ensures.showable c.refusals.ensures.wrong c.refusals.ensures.deep
    c.refusals.ensures.high

pub returns-clause-text : goal.returns-clause-text
returns-clause-text c = one_text
