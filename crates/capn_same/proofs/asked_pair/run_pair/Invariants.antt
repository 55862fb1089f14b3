use Rattle.capn_same.proofs.asked_pair.run_pair.Given as goal

abbrev pub ghosts-pair_with_ledger : goal.ghosts-pair_with_ledger
ghosts-pair_with_ledger g a = record { name = a.blank.name; parts = a.blank.parts }
