use Rattle.std.proofs.Common.{◌∙◌, ◌+◌, ◌<◌, ◌^◌, ◌++◌, [], drop, length, length-take, refl, sym, arith}
use Rattle.std.proofs.lemmas.Result.{err_from_is_err_and}
use Rattle.std.proofs.KnownBytes.{Consumes-nil}
use Rattle.capn_serve.specs.Fold.{fold_until}
use Rattle.capn_serve.proofs.InputRead.{has_broken, still_fine}
use Rattle.capn_serve.proofs.IntakeRuns.{not_broken, run_done, run_ended, run_long, run_none, run_stopped, run_unread}
use Rattle.capn_serve.proofs.IntakeRuns.{taken_on}
use Rattle.capn_serve.proofs.intake.serve_pieces.Goals as goal

pub returns-then-is_done : goal.returns-then-is_done
returns-then-is_done g c =
    let f = fold_until g.S.Service.serves g.S.Service.refuses g.S.Service.done c.args.most in
    run_none (g.I.Intake.takes _ f c.args.intake.now c.args.run.now)
    (g.I.Intake.gives _ f c.args.intake.now c.args.run.now) f.done c.args.limit c.args.intake.now c.args.run.now _ _ _ _
    c.requires.reader_fine c.requires.writer_fine c.requires.new.0
    (c.requires.new.1 (sym c.is_done.ensures ∙ c.if-is_done.true))

pub pieces-init : goal.pieces-init
pieces-init g c = record {
  reader = c.requires.reader_fine;
  writer = c.requires.writer_fine;
  going = sym c.is_done.ensures ∙ c.if-is_done.false;
  within = omega arith;
  way = record { bytes = []; read = Consumes-nil _; size = refl; takes = c.requires.new.0 };
}

pub returns-in-Err : goal.returns-in-Err
returns-in-Err g c =
    let f = fold_until g.S.Service.serves g.S.Service.refuses g.S.Service.done c.args.most in
    let i = c.pieces.invariant in
    run_unread (g.I.Intake.takes _ f c.args.intake.now c.args.run.now)
    (g.I.Intake.gives _ f c.args.intake.now c.args.run.now) f.done c.args.limit c.pieces.intake c.pieces.run _ _ _ _
    c.pieces.taken i.way i.within i.going _ _ _ (has_broken _ _ c.in-Err.ensures.failed) c.in-Err.ensures.bytes

pub finish-requires-clause-taken : goal.finish-requires-clause-taken
finish-requires-clause-taken g c =
    let i = c.pieces.invariant in
    let few : length i.way.bytes + 0 < 2 ^ 64 = omega (arith, i.way.size, i.within, c.ranges.limit) in
    (c.args.most, _, (c.args.intake.now, c.args.run.now, i.way.bytes, _, i.way.takes, few))

pub returns-in-Ok-eq0 : goal.returns-in-Ok-eq0
returns-in-Ok-eq0 g c =
    let f = fold_until g.S.Service.serves g.S.Service.refuses g.S.Service.done c.args.most in
    let i = c.pieces.invariant in
    let room = length-take (c.min-room.result + 1) c.pieces.buffer in
    run_ended (g.I.Intake.takes _ f c.args.intake.now c.args.run.now)
    (g.I.Intake.gives _ f c.args.intake.now c.args.run.now) f.done c.args.limit c.pieces.intake c.pieces.run _ _ _ _
    c.pieces.taken i.way i.within i.going c.finish.new.self _ c.read.new.buf c.in-Ok-eq0.field-0 _ _ c.finish.result
    (still_fine _ _ i.reader c.in-Ok-eq0.ensures.failed) i.writer c.in-Ok-eq0.field-0-test c.in-Ok-eq0.ensures.bytes
    (omega arith)
    (c.finish.ensures c.args.most c.args.intake.now c.args.run.now i.way.bytes _ _ i.way.takes
    (omega (arith, i.way.size, i.within, c.ranges.limit)))

pub serve-requires : goal.serve-requires
serve-requires g c =
    let i = c.pieces.invariant in
    let room = length-take (c.min-room.result + 1) c.pieces.buffer in
    let size = length-take c.min-within.result (c.read.new.buf ++ drop (c.min-room.result + 1) c.pieces.buffer) in
    record {
      ready = record {
        small = c.requires.small;
        fine = i.writer;
        going = i.going;
        few = omega (arith, size, room, c.min-within.ensures, c.in-Ok.ensures.bound.0, c.min-room.ensures);
        some = (
          c.args.intake.now,
          c.args.run.now,
          i.way.bytes,
          _,
          i.way.takes,
          omega (arith, i.way.size, i.within, c.ranges.limit, size, c.min-within.ensures),
        );
      };
    }

pub returns-in_err-serve-in-Ok : goal.returns-in_err-serve-in-Ok
returns-in_err-serve-in-Ok g c =
    let f = fold_until g.S.Service.serves g.S.Service.refuses g.S.Service.done c.args.most in
    let i = c.pieces.invariant in
    let bound = c.in-Ok.ensures.bound in
    let room = length-take (c.min-room.result + 1) c.pieces.buffer in
    let p = err_from_is_err_and c.from_residual.result c.from_residual.ensures.1 in
    rw (p.1, p.2)
    (run_stopped (g.I.Intake.takes _ f c.args.intake.now c.args.run.now)
    (g.I.Intake.gives _ f c.args.intake.now c.args.run.now) f.done c.args.limit c.pieces.intake c.pieces.run _ _ _ _
    c.pieces.taken i.way i.within i.going _ _ c.read.new.buf (drop (c.min-room.result + 1) c.pieces.buffer)
    c.min-within.result c.in-Ok.count _ _ c.serve.new.self c.serve.new.run
    (still_fine _ _ i.reader c.in-Ok.ensures.failed) (omega (arith, c.min-within.ensures))
    (omega (arith, bound.0, room, c.min-room.ensures, i.within)) (omega (arith, bound.0, room, c.min-room.ensures))
    (omega (arith, c.in-Ok.count-test)) bound.0 c.in-Ok.ensures.bytes.0 c.in_err-serve-in-Ok.field-0.0
    (c.in_err-serve-in-Ok.ensures c.args.intake.now c.args.run.now i.way.bytes _ i.way.takes))

pub returns-then-is_done-2 : goal.returns-then-is_done-2
returns-then-is_done-2 g c =
    let f = fold_until g.S.Service.serves g.S.Service.refuses g.S.Service.done c.args.most in
    let i = c.pieces.invariant in
    let bound = c.in-Ok.ensures.bound in
    let room = length-take (c.min-room.result + 1) c.pieces.buffer in
    run_done (g.I.Intake.takes _ f c.args.intake.now c.args.run.now)
    (g.I.Intake.gives _ f c.args.intake.now c.args.run.now) f.done c.args.limit c.pieces.intake c.pieces.run _ _ _ _
    c.pieces.taken i.way i.within i.going _ _ c.read.new.buf (drop (c.min-room.result + 1) c.pieces.buffer)
    c.min-within.result c.in-Ok.count _ _ c.serve.new.self c.serve.new.run
    (still_fine _ _ i.reader c.in-Ok.ensures.failed) (omega (arith, c.min-within.ensures))
    (omega (arith, bound.0, room, c.min-room.ensures, i.within)) (omega (arith, bound.0, room, c.min-room.ensures))
    (omega (arith, c.in-Ok.count-test)) bound.0 c.in-Ok.ensures.bytes.0 c.in_ok-serve-in-Ok.field-0
    (sym c.is_done-in-Ok.ensures ∙ c.if-is_done-2.true)
    (c.in_ok-serve-in-Ok.ensures c.args.intake.now c.args.run.now i.way.bytes _ i.way.takes)

pub returns-then-within-count : goal.returns-then-within-count
returns-then-within-count g c =
    let f = fold_until g.S.Service.serves g.S.Service.refuses g.S.Service.done c.args.most in
    let i = c.pieces.invariant in
    let bound = c.in-Ok.ensures.bound in
    let room = length-take (c.min-room.result + 1) c.pieces.buffer in
    run_long (g.I.Intake.takes _ f c.args.intake.now c.args.run.now)
    (g.I.Intake.gives _ f c.args.intake.now c.args.run.now) f.done c.args.limit c.pieces.intake c.pieces.run _ _ _ _
    c.pieces.taken i.way i.within i.going _ _ c.read.new.buf (drop (c.min-room.result + 1) c.pieces.buffer)
    c.min-within.result c.in-Ok.count _ _ c.serve.new.self c.serve.new.run
    (still_fine _ _ i.reader c.in-Ok.ensures.failed) (omega (arith, c.min-within.ensures))
    (omega (arith, bound.0, room, c.min-room.ensures, i.within)) (omega (arith, bound.0, room, c.min-room.ensures))
    (omega (arith, c.in-Ok.count-test)) bound.0 c.in-Ok.ensures.bytes.0 c.in_ok-serve-in-Ok.field-0
    (sym c.is_done-in-Ok.ensures ∙ c.if-is_done-2.false) c.if-within-count.true
    (c.in_ok-serve-in-Ok.ensures c.args.intake.now c.args.run.now i.way.bytes _ i.way.takes)

pub pieces-preserved : goal.pieces-preserved
pieces-preserved g c =
    let f = fold_until g.S.Service.serves g.S.Service.refuses g.S.Service.done c.args.most in
    let i = c.pieces.invariant in
    let bound = c.in-Ok.ensures.bound in
    let room = length-take (c.min-room.result + 1) c.pieces.buffer in
    let on = sym c.is_done-in-Ok.ensures ∙ c.if-is_done-2.false in
    let fine = still_fine _ _ i.reader c.in-Ok.ensures.failed in
    let fed = c.in_ok-serve-in-Ok.ensures c.args.intake.now c.args.run.now i.way.bytes _ i.way.takes in
    record {
      reader = fine;
      writer = not_broken fed;
      going = on;
      within = omega (arith, i.within, c.min-within.ensures);
      way = taken_on (g.I.Intake.takes _ f c.args.intake.now c.args.run.now)
          (g.I.Intake.gives _ f c.args.intake.now c.args.run.now) f.done c.args.limit c.pieces.intake c.pieces.run
          _ _ _ _ c.pieces.taken i.way i.within i.going _ _ c.read.new.buf
          (drop (c.min-room.result + 1) c.pieces.buffer) c.min-within.result c.in-Ok.count _ _ c.serve.new.self
          c.serve.new.run fine (omega (arith, c.min-within.ensures))
          (omega (arith, bound.0, room, c.min-room.ensures, i.within))
          (omega (arith, bound.0, room, c.min-room.ensures)) (omega (arith, c.in-Ok.count-test)) bound.0
          c.in-Ok.ensures.bytes.0 c.in_ok-serve-in-Ok.field-0 on
          (omega (arith, c.min-within.ensures, c.if-within-count.false)) fed;
    }
