use Rattle.std.proofs.Common.{inl}
use Rattle.std.proofs.Common.{[], ◌∷◌, ◌-◌, ◌+◌, length, take, drop, refl, sym, ◌∙◌, arith, length-drop, length-take}
use Rattle.std.proofs.lemmas.Result.{err_from_is_err_and}
use Rattle.capn_words.specs.Watched.{inner_of, has_failed}
use Rattle.capn_serve.specs.Fold.{fold_until}
use Rattle.capn_serve.specs.Outgoing.{outgoing}
use Rattle.capn_serve.proofs.Next.{frame_some, room_step, whole_memory, whole_more, whole_stop}
use Rattle.capn_serve.proofs.Holding.{adds_fault}
use Rattle.capn_serve.proofs.stream.serve_whole.Goals as goal

-- ---- a message of one segment

pub returns-in_err-add_message-clause-served : goal.returns-in_err-add_message-clause-served
returns-in_err-add_message-clause-served g c =
    let p = err_from_is_err_and c.from_residual.result c.from_residual.ensures.1 in
    rw (p.1, p.2)
    (whole_stop (fold_until g.S.Service.serves g.S.Service.refuses g.S.Service.done c.args.most) c.args.run.now
    c.loop-at.run c.args.bytes.now c.loop-at.at _ _ c.loop-at.invariant.told _ c.in-Some.size c.args.most refl
    (sym c.is_done.ensures ∙ c.if-is_done.false) c.in-Some.ensures.found
    c.add_message.new.run _ _ c.in_err-add_message.field-0.0 (c.in_err-add_message.ensures c.args.most))

pub loop-at-smaller-in-Some : goal.loop-at-smaller-in-Some
loop-at-smaller-in-Some g c =
    let found = c.in-Some.ensures.found in
    let some = frame_some _ _ c.args.most found.frame found.room in
    let left = take (length c.args.bytes.now - c.loop-at.at) (drop c.loop-at.at c.args.bytes.now) in
    let size = length-take c.in-Some.size left in
    omega (arith, some, size, found.inside, c.loop-at-test.true)

pub loop-at-preserved-in-Some : goal.loop-at-preserved-in-Some
loop-at-preserved-in-Some g c =
    let next = c.in_ok-add_message.ensures c.args.most in
    let found = c.in-Some.ensures.found in
    let i = c.loop-at.invariant in
    let left = take (length c.args.bytes.now - c.loop-at.at) (drop c.loop-at.at c.args.bytes.now) in
    let rest = length-take (length c.args.bytes.now - c.loop-at.at) (drop c.loop-at.at c.args.bytes.now) in
    let size = length-take c.in-Some.size left in
    let some = frame_some _ _ c.args.most found.frame found.room in
    let behind = length-drop c.loop-at.at c.args.bytes.now in
    record {
      fine = next.3;
      within = omega (arith, found.inside, rest, i.within, behind);
      room = room_step g.S.Service.serves g.S.Service.refuses g.S.Service.done c.args.most c.loop-at.run
          c.add_message.new.run (take c.in-Some.size left) (c.in-Some.message ∷ []) next.0
          (length c.args.bytes.now - (c.loop-at.at + c.in-Some.size)) some next.1
          (record {
            offset = omega (arith, i.room.offset, size, found.inside, rest, behind);
            index = i.room.index;
          });
      told = whole_more (fold_until g.S.Service.serves g.S.Service.refuses g.S.Service.done c.args.most) c.args.run.now
          c.loop-at.run c.args.bytes.now c.loop-at.at _ _ i.told _ c.in-Some.size c.args.most refl
          (sym c.is_done.ensures ∙ c.if-is_done.false) found c.add_message.new.run _ next.0 next.1 next.2;
    }

-- ---- a message of several segments

pub returns-in_err-add_framed-in-Ok-clause-served : goal.returns-in_err-add_framed-in-Ok-clause-served
returns-in_err-add_framed-in-Ok-clause-served g c =
    let p = err_from_is_err_and c.from_residual-in_err-add_framed-in-Ok.result
    c.from_residual-in_err-add_framed-in-Ok.ensures.1 in
    rw (p.1, p.2)
    (whole_stop (fold_until g.S.Service.serves g.S.Service.refuses g.S.Service.done c.args.most) c.args.run.now
    c.loop-at.run c.args.bytes.now c.loop-at.at _ _ c.loop-at.invariant.told _ c.in-Ok.taken c.args.most refl
    (sym c.is_done.ensures ∙ c.if-is_done.false) c.in-Ok.ensures.found
    c.add_framed.new.run _ _ c.in_err-add_framed-in-Ok.field-0.0 (c.in_err-add_framed-in-Ok.ensures c.args.most))

pub loop-at-smaller : goal.loop-at-smaller
loop-at-smaller g c =
    let found = c.in-Ok.ensures.found in
    let some = frame_some _ _ c.args.most found.frame found.room in
    let left = take (length c.args.bytes.now - c.loop-at.at) (drop c.loop-at.at c.args.bytes.now) in
    let size = length-take c.in-Ok.taken left in
    omega (arith, some, size, found.inside, c.loop-at-test.true)

pub loop-at-preserved : goal.loop-at-preserved
loop-at-preserved g c =
    let next = c.in_ok-add_framed-in-Ok.ensures c.args.most in
    let found = c.in-Ok.ensures.found in
    let i = c.loop-at.invariant in
    let left = take (length c.args.bytes.now - c.loop-at.at) (drop c.loop-at.at c.args.bytes.now) in
    let rest = length-take (length c.args.bytes.now - c.loop-at.at) (drop c.loop-at.at c.args.bytes.now) in
    let size = length-take c.in-Ok.taken left in
    let some = frame_some _ _ c.args.most found.frame found.room in
    let behind = length-drop c.loop-at.at c.args.bytes.now in
    record {
      fine = next.3;
      within = omega (arith, found.inside, rest, i.within, behind);
      room = room_step g.S.Service.serves g.S.Service.refuses g.S.Service.done c.args.most c.loop-at.run
          c.add_framed.new.run (take c.in-Ok.taken left) c.in-Ok.message next.0
          (length c.args.bytes.now - (c.loop-at.at + c.in-Ok.taken)) some next.1
          (record {
            offset = omega (arith, i.room.offset, size, found.inside, rest, behind);
            index = i.room.index;
          });
      told = whole_more (fold_until g.S.Service.serves g.S.Service.refuses g.S.Service.done c.args.most) c.args.run.now
          c.loop-at.run c.args.bytes.now c.loop-at.at _ _ i.told _ c.in-Ok.taken c.args.most refl
          (sym c.is_done.ensures ∙ c.if-is_done.false) found c.add_framed.new.run _ next.0 next.1 next.2;
    }

-- ---- no message

pub returns-in_err-pass-in-Err-clause-served : goal.returns-in_err-pass-in-Err-clause-served
returns-in_err-pass-in-Err-clause-served g c =
    let left = c.from_residual-in_err-pass-in-Err.ensures.1 in
    let p = err_from_is_err_and c.from_residual-in_err-pass-in-Err.result left in
    rw (p.1, p.2, c.in_err-pass-in-Err.ensures.1)
    (whole_memory (fold_until g.S.Service.serves g.S.Service.refuses g.S.Service.done c.args.most) c.args.run.now
    c.loop-at.run c.args.bytes.now c.loop-at.at _ _ _ c.loop-at.invariant.told c.loop-at.invariant.fine)

-- ---- what is refused

pub returns-in_err-add_message-clause-came : goal.returns-in_err-add_message-clause-came
returns-in_err-add_message-clause-came g c =
    let p = err_from_is_err_and c.from_residual.result c.from_residual.ensures.1 in
    rw (p.1, p.2)
    (adds_fault (fold_until g.S.Service.serves g.S.Service.refuses g.S.Service.done c.args.most) c.loop-at.run
    (take c.in-Some.size (take (length c.args.bytes.now - c.loop-at.at) (drop c.loop-at.at c.args.bytes.now)))
    (c.in-Some.message ∷ []) (outgoing (g.W.Write.contents (inner_of c.loop-at.writer)) c.loop-at.text.items)
    (outgoing (g.W.Write.contents (inner_of c.add_message.new.writer)) c.add_message.new.text.items)
    (has_failed c.add_message.new.writer) c.in_err-add_message.field-0.0 c.add_message.new.run
    (c.in_err-add_message.ensures c.args.most))

pub returns-in_err-add_framed-in-Ok-clause-came : goal.returns-in_err-add_framed-in-Ok-clause-came
returns-in_err-add_framed-in-Ok-clause-came g c =
    let p = err_from_is_err_and c.from_residual-in_err-add_framed-in-Ok.result
    c.from_residual-in_err-add_framed-in-Ok.ensures.1 in
    rw (p.1, p.2)
    (adds_fault (fold_until g.S.Service.serves g.S.Service.refuses g.S.Service.done c.args.most) c.loop-at.run
    (take c.in-Ok.taken (take (length c.args.bytes.now - c.loop-at.at) (drop c.loop-at.at c.args.bytes.now)))
    c.in-Ok.message (outgoing (g.W.Write.contents (inner_of c.loop-at.writer)) c.loop-at.text.items)
    (outgoing (g.W.Write.contents (inner_of c.add_framed.new.writer)) c.add_framed.new.text.items)
    (has_failed c.add_framed.new.writer) c.in_err-add_framed-in-Ok.field-0.0 c.add_framed.new.run
    (c.in_err-add_framed-in-Ok.ensures c.args.most))

pub returns-in_err-pass-in-Err-clause-came : goal.returns-in_err-pass-in-Err-clause-came
returns-in_err-pass-in-Err-clause-came g c =
    let left = c.from_residual-in_err-pass-in-Err.ensures.1 in
    let p = err_from_is_err_and c.from_residual-in_err-pass-in-Err.result left in
    rw (p.1, p.2) (inl c.in_err-pass-in-Err.ensures.1)
