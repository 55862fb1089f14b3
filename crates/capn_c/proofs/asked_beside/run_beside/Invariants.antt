use Rattle.capn_c.proofs.asked_beside.run_beside.Given as goal

abbrev pub ghosts-beside_with_ledger : goal.ghosts-beside_with_ledger
ghosts-beside_with_ledger g a = record { name = a.blank.name; parts = a.blank.parts }
