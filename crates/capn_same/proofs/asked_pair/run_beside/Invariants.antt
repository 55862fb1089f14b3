use Rattle.capn_same.proofs.asked_pair.run_beside.Given as goal

abbrev pub ghosts-beside_with_ledger : goal.ghosts-beside_with_ledger
ghosts-beside_with_ledger g a = record { name = a.blank.name; parts = a.blank.parts }
