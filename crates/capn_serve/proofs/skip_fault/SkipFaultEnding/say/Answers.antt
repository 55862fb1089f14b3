use Rattle.capn_serve.proofs.skip_fault.SkipFaultEnding.say.Goals as goal

pub returns-in-Ended : goal.returns-in-Ended
returns-in-Ended g c = rw c.in-Ended.is c.say.ensures

pub returns-in-Skipped : goal.returns-in-Skipped
returns-in-Skipped g c = rw c.in-Skipped.is c.say_skipped.ensures

pub returns-in-RefusedAfterSkipped : goal.returns-in-RefusedAfterSkipped
returns-in-RefusedAfterSkipped g c = rw c.in-RefusedAfterSkipped.is c.say_after_skipped.ensures
