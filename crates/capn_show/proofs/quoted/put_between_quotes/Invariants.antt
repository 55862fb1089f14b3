use Rattle.std.proofs.Common.{length}
use Rattle.capn_show.specs.Outgoing.{outgoing}
use Rattle.capn_show.specs.ReadyPlaces.{AddsFront}
use Rattle.capn_show.proofs.quoted.put_between_quotes.Given as goal

abbrev pub invariant-loop-rest : goal.invariant-loop-rest
invariant-loop-rest g l = AddsFront (outgoing g.W.Write.contents l.initial.writer l.initial.text.items)
    (outgoing g.W.Write.contents l.writer l.text.items) l.bytes l.rest

abbrev pub decreases-loop-rest : goal.decreases-loop-rest
decreases-loop-rest g l = length l.rest
