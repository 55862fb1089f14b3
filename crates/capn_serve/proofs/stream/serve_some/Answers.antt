use Rattle.std.proofs.Common.{◌≡◌, ◌+◌, length, take, arith, length-take}
use Rattle.std.proofs.lemmas.Result.{err_from_is_err_and}
use Rattle.capn_serve.specs.Fold.{fold_until}
use Rattle.capn_serve.proofs.Next.{room_told, some_next, some_stop, some_whole, still_going}
use Rattle.capn_serve.proofs.Holding.{holds_message, holds_next}
use Rattle.capn_serve.proofs.stream.serve_some.Goals as goal

pub returns-in_err-whole : goal.returns-in_err-whole
returns-in_err-whole g c =
    let f = fold_until g.S.Service.serves g.S.Service.refuses g.S.Service.done c.args.most in
    let p = err_from_is_err_and c.from_residual.result c.from_residual.ensures.1 in
    rw (p.1, p.2)
    (record {
      served = some_stop f c.args.run.now c.serve_whole.new.run c.args.framer.now c.args.bytes.now _ _ _
          c.in_err-whole.field-0.0 (c.is_empty.ensures.0 c.if-not-is_empty.false) c.in_err-whole.ensures.served;
      came = holds_message f c.args.run.now _ _ _ c.in_err-whole.field-0.0 c.in_err-whole.ensures.came;
    })

pub returns-then-whole-gt0 : goal.returns-then-whole-gt0
returns-then-whole-gt0 g c = record {
  served = some_whole (fold_until g.S.Service.serves g.S.Service.refuses g.S.Service.done c.args.most) c.args.run.now
      c.serve_whole.new.run c.args.framer.now c.args.bytes.now _ _ c.in_ok-whole.whole _ c.requires.ready.listening
      (c.is_empty.ensures.0 c.if-not-is_empty.false) c.if-whole-gt0.true c.in_ok-whole.ensures.served;
  came = tt;
}

pub serve_next-requires-2 : goal.serve_next-requires-2
serve_next-requires-2 g c =
    let f = fold_until g.S.Service.serves g.S.Service.refuses g.S.Service.done c.args.most in
    let ready = c.requires.ready in
    let told = c.in_ok-whole.ensures.served.1 in
    let size = length-take c.in_ok-whole.whole c.args.bytes.now in
    let room = room_told g.S.Service.serves g.S.Service.refuses g.S.Service.done c.args.most c.args.run.now
    c.serve_whole.new.run (take c.in_ok-whole.whole c.args.bytes.now) _ _ _
    (length c.args.framer.now.rest + length c.args.bytes.now) told
    (record {
      offset = omega (arith, ready.can.room.offset, size, c.if-whole-gt0.false);
      index = ready.can.room.index;
    }) in
    record {
      ready = record {
        can = record {
          small = ready.can.small;
          fine = c.in_ok-whole.ensures.served.2;
          room = record { offset = omega (arith, room.offset); index = room.index };
        };
        going = still_going f c.args.run.now c.serve_whole.new.run c.args.bytes.now c.in_ok-whole.whole _ _
            (omega (arith, c.if-whole-gt0.false)) told ready.going;
        listening = ready.listening;
      };
    }

pub returns : goal.returns
returns g c =
    let f = fold_until g.S.Service.serves g.S.Service.refuses g.S.Service.done c.args.most in
    let none : c.in_ok-whole.whole ≡ 0 = omega (arith, c.if-whole-gt0.false) in
    let whole = c.in_ok-whole.ensures.served in
    let next = c.serve_next-2.ensures in
    record {
      served = some_next f c.args.run.now c.serve_whole.new.run c.args.framer.now c.args.bytes.now _ _
          c.serve_next-2.new.run c.in_ok-whole.whole _ _ _ c.serve_next-2.result c.serve_next-2.new.framer none whole
          next.served;
      came = holds_next f c.args.run.now c.serve_whole.new.run c.serve_next-2.new.run _ c.args.bytes.now _
          c.in_ok-whole.whole _ _ c.serve_next-2.result none whole.1 next.came;
    }
