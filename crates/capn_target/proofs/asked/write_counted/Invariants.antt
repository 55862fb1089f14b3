use Rattle.capn_target.proofs.asked.write_counted.Given as goal

abbrev pub ghosts-write_with_ledger : goal.ghosts-write_with_ledger
ghosts-write_with_ledger g a = record { name = a.blank.name; parts = a.blank.parts }
