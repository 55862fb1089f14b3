use Rattle.capn_archive.proofs.fault.ArchiveFaultEnding.say.Goals as goal

pub returns-in-Ended : goal.returns-in-Ended
returns-in-Ended g c = rw c.in-Ended.is c.say.ensures

pub returns-in-NotCanonical : goal.returns-in-NotCanonical
returns-in-NotCanonical g c = rw c.in-NotCanonical.is c.say_uncanonical.ensures
