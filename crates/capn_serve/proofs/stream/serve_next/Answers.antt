use Rattle.std.proofs.lemmas.Result.{err_from_is_err_and}
use Rattle.capn_serve.specs.Fold.{fold_until}
use Rattle.capn_serve.proofs.Next.{next_ok, next_refused, next_stopped}
use Rattle.capn_serve.proofs.Holding.{holds_message, holds_refused}
use Rattle.capn_serve.proofs.stream.serve_next.Goals as goal

pub returns-in_err-serve_held-in-Ok : goal.returns-in_err-serve_held-in-Ok
returns-in_err-serve_held-in-Ok g c =
    let f = fold_until g.S.Service.serves g.S.Service.refuses g.S.Service.done c.args.most in
    let p = err_from_is_err_and c.from_residual.result c.from_residual.ensures.1 in
    let stop = c.in_err-serve_held-in-Ok.ensures in
    rw (p.1, p.2)
    (record {
      served = next_stopped f c.args.run.now c.args.framer.now c.args.bytes.now c.requires.ready.listening
          c.serve_held.new.run c.in-Ok.taken c.feed.new.self c.serve_held.new.framer _ _ _
          c.in_err-serve_held-in-Ok.field-0.0 c.in-Ok.ensures.gives stop.served;
      came = holds_message f c.args.run.now _ _ _ c.in_err-serve_held-in-Ok.field-0.0 stop.came;
    })

pub returns-in_ok-serve_held-in-Ok : goal.returns-in_ok-serve_held-in-Ok
returns-in_ok-serve_held-in-Ok g c = record {
  served = next_ok (fold_until g.S.Service.serves g.S.Service.refuses g.S.Service.done c.args.most) c.args.run.now
      c.args.framer.now c.args.bytes.now c.requires.ready.listening c.serve_held.new.run c.in-Ok.taken c.feed.new.self
      c.serve_held.new.framer _ _ _ c.in_ok-serve_held-in-Ok.field-0 c.in-Ok.ensures.gives
      c.in_ok-serve_held-in-Ok.ensures.served;
  came = tt;
}

pub returns-in-Err : goal.returns-in-Err
returns-in-Err g c =
    let f = fold_until g.S.Service.serves g.S.Service.refuses g.S.Service.done c.args.most in
    let ready = c.requires.ready in
    rw c.fault_at.ensures
    (record {
      served = next_refused f c.args.run.now c.args.framer.now c.args.bytes.now ready.listening c.in-Err.fault
          c.feed.new.self _ _ ready.can.fine ready.going c.in-Err.ensures.gives;
      came = holds_refused f c.args.run.now c.args.framer.now c.args.bytes.now ready.listening c.in-Err.fault
          c.feed.new.self c.in-Err.ensures.gives c.in-Err.ensures.kept;
    })
