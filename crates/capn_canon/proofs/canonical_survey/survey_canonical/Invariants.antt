use Rattle.capn_canon.proofs.canonical_survey.survey_canonical.Given as goal

abbrev pub ghosts-survey_with_ledger : goal.ghosts-survey_with_ledger
ghosts-survey_with_ledger a = record { name = a.blank.name; parts = a.blank.parts }
