use Rattle.capn_serve.proofs.refusal_line.say_refusal.Goals as goal

pub returns-in-Bare : goal.returns-in-Bare
returns-in-Bare g c = rw c.in-Bare.is c.say_bare.ensures

pub returns-in-Packed : goal.returns-in-Packed
returns-in-Packed g c = rw c.in-Packed.is c.say_unpack.ensures

pub returns-in-Frame : goal.returns-in-Frame
returns-in-Frame g c = rw c.in-Frame.is c.say_frame.ensures

pub returns-in-Trailing : goal.returns-in-Trailing
returns-in-Trailing g c = rw c.in-Trailing.is c.put_named.ensures

pub returns-in-Walk : goal.returns-in-Walk
returns-in-Walk g c = rw c.in-Walk.is c.say_stopped.ensures

pub returns-in-Capability : goal.returns-in-Capability
returns-in-Capability g c = rw c.in-Capability.is c.put_named-in-Capability.ensures

pub returns-in-Memory : goal.returns-in-Memory
returns-in-Memory g c = rw c.in-Memory.is c.put_memory.ensures
