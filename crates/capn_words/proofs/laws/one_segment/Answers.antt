use Rattle.capn_words.proofs.shared.OneSegment.{bare_not_refused, one_bare, one_bare_fault}
use Rattle.capn_words.proofs.laws.one_segment.Goals as goal

pub returns-clause-one : goal.returns-clause-one
returns-clause-one c = one_bare

pub returns-clause-refusal : goal.returns-clause-refusal
returns-clause-refusal c = one_bare_fault

pub returns-clause-apart : goal.returns-clause-apart
returns-clause-apart c = bare_not_refused
