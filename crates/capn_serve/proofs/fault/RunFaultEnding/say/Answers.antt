use Rattle.capn_serve.proofs.shared.Said.{both}
use Rattle.capn_serve.proofs.fault.RunFaultEnding.say.Goals as goal

pub returns-in-Memory : goal.returns-in-Memory
returns-in-Memory g c = rw c.in-Memory.is c.put_memory.ensures

pub returns-in-Io : goal.returns-in-Io
returns-in-Io g c = rw c.in-Io.is c.put.ensures

pub returns-in-InputTooLong : goal.returns-in-InputTooLong
returns-in-InputTooLong g c = rw c.in-InputTooLong.is c.put-in-InputTooLong.ensures

pub returns-in-Refused : goal.returns-in-Refused
returns-in-Refused g c =
    rw c.in-Refused.is (both _ _ _ _ _ c.put-in-Refused.ensures
    (both _ _ _ _ _ c.say_place.ensures (both _ _ _ _ _ c.put-in-Refused-2.ensures c.say_refusal.ensures)))
