use Rattle.capn_layout.proofs.message_layout.surveyed_length.Given as goal

abbrev pub ghosts-length_with_ledger : goal.ghosts-length_with_ledger
ghosts-length_with_ledger g a = record { name = a.blank.name; parts = a.blank.parts }
