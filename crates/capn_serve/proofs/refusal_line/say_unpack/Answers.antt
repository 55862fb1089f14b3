use Rattle.capn_serve.proofs.shared.Said.{both}
use Rattle.capn_serve.proofs.refusal_line.say_unpack.Goals as goal

pub returns-in-Memory : goal.returns-in-Memory
returns-in-Memory g c = rw c.in-Memory.is (both _ _ _ _ _ c.put.ensures c.put_memory.ensures)

pub returns-in-Cut : goal.returns-in-Cut
returns-in-Cut g c = rw c.in-Cut.is c.put_named.ensures

pub returns-in-TooLong : goal.returns-in-TooLong
returns-in-TooLong g c = rw c.in-TooLong.is c.put_named-in-TooLong.ensures

pub returns-in-Failed : goal.returns-in-Failed
returns-in-Failed g c = rw c.in-Failed.is c.put-in-Failed.ensures
