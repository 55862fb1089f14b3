use Rattle.capn_cmp.proofs.fault.CmpFaultEnding.say.Goals as goal

pub returns-in-TooFew : goal.returns-in-TooFew
returns-in-TooFew g c = rw c.in-TooFew.is c.put.ensures
