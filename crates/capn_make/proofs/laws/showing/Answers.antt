use Rattle.capn_make.proofs.ShownTexts.{shown_made, shown_only, one_made, one_only}
use Rattle.capn_make.proofs.laws.showing.Goals as goal

pub returns-clause-made : goal.returns-clause-made
returns-clause-made c = shown_made

pub returns-clause-only : goal.returns-clause-only
returns-clause-only c =
    shown_only c.texts.ensures.apart c.texts.ensures.showable c.refusals.ensures.high

pub returns-clause-one : goal.returns-clause-one
returns-clause-one c = one_made

pub returns-clause-one_only : goal.returns-clause-one_only
returns-clause-one_only c =
    one_only c.texts.ensures.apart c.texts.ensures.showable c.refusals.ensures.high c.refusals.ensures.wrong
    c.refusals.ensures.deep
