use Rattle.capn_value.proofs.OnceTrimmed.{same-trimmed}
use Rattle.capn_value.proofs.shared.Told.{same_exactly_told, same_as_whole, same_got}
use Rattle.capn_value.specs.Trim.{trimmed}
use Rattle.capn_value.proofs.laws.reading.Goals as goal

pub returns-clause-exactly : goal.returns-clause-exactly
returns-clause-exactly c t u = same_exactly_told t u

pub returns-clause-whole : goal.returns-clause-whole
returns-clause-whole c t u = same_as_whole t u

pub returns-clause-trimmed : goal.returns-clause-trimmed
returns-clause-trimmed c t p = same_got p (trimmed t) t (same-trimmed t)
