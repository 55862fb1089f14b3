use Rattle.capn_diagnostics.proofs.holder_text.HolderTextDisplay.fmt.Goals as goal

pub returns-in-Struct-clause-writes : goal.returns-in-Struct-clause-writes
returns-in-Struct-clause-writes g c = rw c.in-Struct.is c.write.ensures.writes
