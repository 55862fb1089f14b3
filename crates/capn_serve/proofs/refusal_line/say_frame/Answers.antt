use Rattle.capn_serve.proofs.shared.Said.{both}
use Rattle.capn_serve.proofs.refusal_line.say_frame.Goals as goal

pub returns-in-Memory : goal.returns-in-Memory
returns-in-Memory g c = rw c.in-Memory.is (both _ _ _ _ _ c.put.ensures c.put_memory.ensures)

pub returns-in-Empty : goal.returns-in-Empty
returns-in-Empty g c = rw c.in-Empty.is c.put-in-Empty.ensures

pub returns-in-TooManySegments : goal.returns-in-TooManySegments
returns-in-TooManySegments g c = rw c.in-TooManySegments.is c.put_between.ensures

pub returns-in-TooManyWords : goal.returns-in-TooManyWords
returns-in-TooManyWords g c = rw c.in-TooManyWords.is c.put_between-in-TooManyWords.ensures

pub returns-in-Cut : goal.returns-in-Cut
returns-in-Cut g c = rw c.in-Cut.is c.put-in-Cut.ensures

pub returns-in-Failed : goal.returns-in-Failed
returns-in-Failed g c = rw c.in-Failed.is c.put-in-Failed.ensures
