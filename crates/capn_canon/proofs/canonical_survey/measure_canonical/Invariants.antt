use Rattle.capn_canon.proofs.canonical_survey.measure_canonical.Given as goal

abbrev pub ghosts-measure_with_ledger : goal.ghosts-measure_with_ledger
ghosts-measure_with_ledger a = record { name = a.blank.name; parts = a.blank.parts }
