use Rattle.capn_layout.proofs.message_layout.surveyed_layout.Given as goal

abbrev pub ghosts-layout_with_ledger : goal.ghosts-layout_with_ledger
ghosts-layout_with_ledger g a = record { name = a.blank.name; parts = a.blank.parts }
