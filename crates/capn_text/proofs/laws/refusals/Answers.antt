use Rattle.capn_text.proofs.WrongOrDeep.{one_wrong_line, wrong_is_not_deep, deep_is_high}
use Rattle.capn_text.proofs.laws.refusals.Goals as goal

pub returns-clause-wrong : goal.returns-clause-wrong
returns-clause-wrong c = one_wrong_line

pub returns-clause-deep : goal.returns-clause-deep
returns-clause-deep c = wrong_is_not_deep

pub returns-clause-high : goal.returns-clause-high
returns-clause-high c = deep_is_high
