use Rattle.capn_target.proofs.plain.resolve.Given as goal

abbrev pub ghosts-resolve_with_ledger : goal.ghosts-resolve_with_ledger
ghosts-resolve_with_ledger g a = record { name = a.blank.name; parts = a.blank.parts }
