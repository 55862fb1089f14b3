use Rattle.capn_diagnostics.proofs.examined_text.LimitDisplay.fmt.Goals as goal

pub returns-in-Budget-clause-writes : goal.returns-in-Budget-clause-writes
returns-in-Budget-clause-writes g c = rw c.in-Budget.is c.write-in-Budget.ensures.writes
