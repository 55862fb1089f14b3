use Rattle.capn_serve.proofs.refusal_line.say_bare.Goals as goal

pub returns-in-NotWhole : goal.returns-in-NotWhole
returns-in-NotWhole g c = rw c.in-NotWhole.is c.put_between.ensures

pub returns-in-TooLong : goal.returns-in-TooLong
returns-in-TooLong g c = rw c.in-TooLong.is c.put_between-in-TooLong.ensures
