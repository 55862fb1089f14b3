use Rattle.capn_text.proofs.WhateverFollows.{wrong_stays, none_goes_on, deep_stays, none_begins}
use Rattle.capn_text.proofs.laws.whole_lines.Goals as goal

pub returns-clause-wrong : goal.returns-clause-wrong
returns-clause-wrong c = wrong_stays

pub returns-clause-none : goal.returns-clause-none
returns-clause-none c = none_goes_on

pub returns-clause-deep : goal.returns-clause-deep
returns-clause-deep c = deep_stays

pub returns-clause-first : goal.returns-clause-first
returns-clause-first c = none_begins
