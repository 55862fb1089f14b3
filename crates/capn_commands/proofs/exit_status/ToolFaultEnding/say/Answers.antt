use Rattle.capn_commands.proofs.exit_status.ToolFaultEnding.say.Goals as goal

pub returns-in-Memory : goal.returns-in-Memory
returns-in-Memory g c = rw c.in-Memory.is c.put_memory.ensures

pub returns-in-Io : goal.returns-in-Io
returns-in-Io g c = rw c.in-Io.is c.put.ensures

pub returns-in-InputTooLong : goal.returns-in-InputTooLong
returns-in-InputTooLong g c = rw c.in-InputTooLong.is c.put-in-InputTooLong.ensures

pub returns-in-NotWhole : goal.returns-in-NotWhole
returns-in-NotWhole g c = rw c.in-NotWhole.is c.put_between.ensures

pub returns-in-Refused : goal.returns-in-Refused
returns-in-Refused g c = rw c.in-Refused.is c.say_refusal.ensures
