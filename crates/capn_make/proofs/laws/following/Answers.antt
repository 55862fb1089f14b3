use Rattle.capn_make.proofs.AfterTexts.{refused_after, unended_is_last}
use Rattle.capn_make.proofs.laws.following.Goals as goal

pub returns-clause-after : goal.returns-clause-after
returns-clause-after c =
    refused_after c.texts.ensures.apart c.texts.ensures.showable c.refusals.ensures.high

pub returns-clause-last : goal.returns-clause-last
returns-clause-last c = unended_is_last c.texts.ensures.apart c.texts.ensures.showable
