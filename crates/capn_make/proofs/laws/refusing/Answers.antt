use Rattle.capn_make.proofs.Endings.{one_ending, making_ends}
use Rattle.capn_make.proofs.WhateverFollows.{fault_stays, refusal_stays}
use Rattle.capn_make.proofs.laws.refusing.Goals as goal

pub returns-clause-stays : goal.returns-clause-stays
returns-clause-stays c =
    fault_stays c.whole_lines.ensures.wrong c.whole_lines.ensures.none c.whole_lines.ensures.deep
    c.whole_lines.ensures.first

pub returns-clause-goes_on : goal.returns-clause-goes_on
returns-clause-goes_on c =
    refusal_stays c.whole_lines.ensures.wrong c.whole_lines.ensures.none c.whole_lines.ensures.deep
    c.whole_lines.ensures.first

pub returns-clause-one : goal.returns-clause-one
returns-clause-one c =
    one_ending c.texts.ensures.apart c.texts.ensures.showable c.refusals.ensures.wrong c.refusals.ensures.deep
    c.refusals.ensures.high

pub returns-clause-ends : goal.returns-clause-ends
returns-clause-ends c = making_ends
