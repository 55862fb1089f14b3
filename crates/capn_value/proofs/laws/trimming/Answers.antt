use Rattle.capn_value.specs.Cost.{base}
use Rattle.capn_value.proofs.shared.Fitting.{fit_parts, fit_from}
use Rattle.capn_value.proofs.FirstMisfit.{first_misfit}
use Rattle.capn_value.proofs.OnceTrimmed.{same-trimmed}
use Rattle.capn_value.proofs.shared.StaysFit.{fits-trimmed}
use Rattle.capn_value.proofs.shared.Trimmed.{cost-trimmed, height-trimmed}
use Rattle.capn_value.proofs.shared.SameTrimmed.{same_exactly_trimmed}
use Rattle.capn_value.proofs.laws.trimming.Goals as goal

pub returns-clause-same : goal.returns-clause-same
returns-clause-same c t u p q = same_exactly_trimmed t u (fit_parts t p).even (fit_parts u q).even

pub returns-clause-thrifty : goal.returns-clause-thrifty
returns-clause-thrifty c t p = (λ by. cost-trimmed (base by) t (fit_parts t p).even, height-trimmed t, fits-trimmed t p)

pub returns-clause-kept : goal.returns-clause-kept
returns-clause-kept c t = same-trimmed t

pub returns-clause-fitting : goal.returns-clause-fitting
returns-clause-fitting c t = (fit_parts t, fit_from t)

pub returns-clause-first : goal.returns-clause-first
returns-clause-first c t k = first_misfit t k
