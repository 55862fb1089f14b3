use Rattle.capn_scratch.proofs.asked_bytes.run_counted.Given as goal

abbrev pub ghosts-run_with_ledger : goal.ghosts-run_with_ledger
ghosts-run_with_ledger g a = record { name = a.blank.name; parts = a.blank.parts }
