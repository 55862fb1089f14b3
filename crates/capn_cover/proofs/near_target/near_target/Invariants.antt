use Rattle.capn_cover.proofs.near_target.near_target.Given as goal

abbrev pub ghosts-near_with_ledger : goal.ghosts-near_with_ledger
ghosts-near_with_ledger g a = record { name = a.blank.name; parts = a.blank.parts }
