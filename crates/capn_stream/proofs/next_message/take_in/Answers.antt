use Rattle.capn_stream.proofs.Received.{takes_in}
use Rattle.capn_stream.proofs.next_message.take_in.Goals as goal

pub returns-in-Ok : goal.returns-in-Ok
returns-in-Ok g c =
    takes_in c.args.framer.now c.args.piece.now _ _ c.take.result c.take.new.self c.in-Ok.ensures.gives
    c.requires.needed c.take.ensures
