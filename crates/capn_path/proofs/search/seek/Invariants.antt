use Rattle.capn_path.proofs.search.seek.Given as goal

abbrev pub ghosts-seek_with_ledger : goal.ghosts-seek_with_ledger
ghosts-seek_with_ledger g a = record { name = a.blank.name; parts = a.blank.parts }
