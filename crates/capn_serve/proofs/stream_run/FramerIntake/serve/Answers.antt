use Rattle.std.proofs.Common.{◌++◌}
use Rattle.capn_serve.specs.declared.fault.RunFault.{RunFault}
use Rattle.capn_serve.specs.Fold.{fold_until}
use Rattle.capn_serve.specs.inner.Holding.{Holds}
use Rattle.capn_serve.proofs.Next.{serves_chunk}
use Rattle.capn_serve.proofs.Holding.{holds_io, sent_fault}
use Rattle.capn_serve.proofs.StreamIntake.{feeds_stream, room_heard}
use Rattle.capn_serve.proofs.stream_run.FramerIntake.serve.Goals as goal

pub serve_bytes-served-requires : goal.serve_bytes-served-requires
serve_bytes-served-requires g c =
    let (first, x, bytes, d, taken, small) = c.requires.ready.some in
    record {
      ready = record {
        can = record {
          small = c.requires.ready.small;
          fine = c.requires.ready.fine;
          room = room_heard g.S.Service.serves g.S.Service.refuses g.S.Service.done c.args.most x c.args.run.now
              c.args.self.now bytes d _ _ taken small;
        };
        going = c.requires.ready.going;
        listening = taken.2;
      };
    }

pub returns : goal.returns
returns g c = λ first x bytes d taken.
    let f = fold_until g.S.Service.serves g.S.Service.refuses g.S.Service.done c.args.most in
    let run = c.args.run.now in
    let last = c.serve_bytes-served.new.run in
    let after = c.serve_bytes-served.new.framer in
    let stream = c.args.self.now.rest ++ c.args.piece.now in
    feeds_stream f x run last c.args.self.now after bytes c.args.piece.now d _ _ _ c.send_rest.result taken
    (serves_chunk f run last c.args.self.now after c.args.piece.now _ _ _ c.clear.new.self.items
    c.serve_bytes-served.new.text.items c.deref.result.now _ _ c.serve_bytes-served.result c.send_rest.result
    c.clear.ensures.items c.deref.ensures.value c.serve_bytes-served.ensures.served c.send_rest.ensures)
    (sent_fault (λ (e : RunFault). Holds f run stream e after.rest last) _ _ _ _ _ c.serve_bytes-served.result
    c.send_rest.result (holds_io f run stream after.rest last) c.send_rest.ensures c.serve_bytes-served.ensures.came)
