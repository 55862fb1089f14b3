use Rattle.capn_commands.proofs.flow_fault.FlowFaultEnding.say.Goals as goal

pub returns-in-Memory : goal.returns-in-Memory
returns-in-Memory g c = rw c.in-Memory.is c.put_memory.ensures

pub returns-in-Io : goal.returns-in-Io
returns-in-Io g c = rw c.in-Io.is c.put.ensures

pub returns-in-InputTooLong : goal.returns-in-InputTooLong
returns-in-InputTooLong g c = rw c.in-InputTooLong.is c.put-in-InputTooLong.ensures

pub returns-in-Cut : goal.returns-in-Cut
returns-in-Cut g c = rw c.in-Cut.is c.put_named.ensures
