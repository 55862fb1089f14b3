use Rattle.std.proofs.Common.{◌∙◌, [], refl, arith}
use Rattle.std.proofs.lemmas.Result.{err_from_is_err_and}
use Rattle.std.proofs.KnownBytes.{Consumes-nil}
use Rattle.capn_words.specs.Watched.{has_failed}
use Rattle.capn_make.specs.inner.SinkRun.{Holds}
use Rattle.capn_make.proofs.SinkRuns.{not_broken, run_ended, run_failed, run_refused, run_too_long, some_given}
use Rattle.capn_make.proofs.SinkRuns.{taken_on}
use Rattle.capn_make.proofs.sink.run.Goals as goal

pub pieces-init : goal.pieces-init
pieces-init g c = record {
  fine = c.requires.reader_fine;
  kept = c.requires.writer_fine;
  few = omega arith;
  way = record { bytes = []; read = Consumes-nil _; size = refl; takes = (refl, c.requires.new) };
}

pub returns-in_default : goal.returns-in_default
returns-in_default g c =
    let i = c.pieces.invariant in
    let task = g.S.Sink.task c.args.sink.now in
    rw c.broken.ensures (run_failed (Holds g.S.Sink.task g.S.Sink.takes task) (g.S.Sink.gives task) g.S.Sink.io
    c.pieces.sink _ _ _ _ c.pieces.taken i.way _ _ _ c.read_piece.new.buffer c.in_default.ensures)

pub returns-then-count-eq0 : goal.returns-then-count-eq0
returns-then-count-eq0 g c =
    let i = c.pieces.invariant in
    let task = g.S.Sink.task c.args.sink.now in
    let ended = rw i.way.takes.0 at c.finish.ensures i.way.bytes _ i.way.takes.1 in
    run_ended (Holds g.S.Sink.task g.S.Sink.takes task) (g.S.Sink.gives task) g.S.Sink.io c.pieces.sink _ _ _ _
    c.pieces.taken i.way _ _ _ _ c.in-Some.count c.in-Some.ensures c.finish.new.self _ c.finish.result
    c.if-count-eq0.true ended.0 ended.1

pub returns-in_default-counted : goal.returns-in_default-counted
returns-in_default-counted g c =
    let i = c.pieces.invariant in
    let task = g.S.Sink.task c.args.sink.now in
    let many = c.in_default-counted.ensures in
    let long = rw i.way.takes.0 at c.too_long.ensures.long in
    run_too_long (Holds g.S.Sink.task g.S.Sink.takes task) (g.S.Sink.gives task) g.S.Sink.io c.pieces.sink _ _ _ _
    c.pieces.taken i.way _ _ _ _ c.in-Some.count c.in-Some.ensures c.too_long.result c.too_long.ensures.other i.kept
    many (λ bytes more c d takes. long bytes _ more c d takes.1)

pub feed-requires-clause-some : goal.feed-requires-clause-some
feed-requires-clause-some g c =
    let i = c.pieces.invariant in
    let task = g.S.Sink.task c.args.sink.now in
    some_given (Holds g.S.Sink.task g.S.Sink.takes task) (g.S.Sink.gives task) g.S.Sink.io c.pieces.sink _ _ _ _
    c.pieces.taken i.way _ _ (has_failed c.pieces.writer) _ c.in-Some.count c.in-Some.ensures c.if-count-eq0.false

pub returns-in_err-feed : goal.returns-in_err-feed
returns-in_err-feed g c =
    let i = c.pieces.invariant in
    let task = g.S.Sink.task c.args.sink.now in
    let p = err_from_is_err_and c.from_residual.result c.from_residual.ensures.1 in
    let fed = rw i.way.takes.0 at c.in_err-feed.ensures.fed i.way.bytes _ i.way.takes.1 in
    rw (p.1, p.2) (run_refused (Holds g.S.Sink.task g.S.Sink.takes task) (g.S.Sink.gives task) g.S.Sink.io c.pieces.sink
    _ _ _ _ c.pieces.taken i.way _ _ _ _ c.in-Some.count c.in-Some.ensures c.feed.new.self _ c.in_err-feed.field-0.0
    fed.0 fed.1)

pub pieces-preserved : goal.pieces-preserved
pieces-preserved g c =
    let i = c.pieces.invariant in
    let task = g.S.Sink.task c.args.sink.now in
    let sum = c.in-Some-counted.ensures in
    let fed = c.in_ok-feed.ensures.fed i.way.bytes _ i.way.takes.1 in
    record {
      fine = c.in-Some.ensures.0;
      kept = not_broken g.S.Sink.io _ _ fed.1.1;
      few = sum.1;
      way = rw sum.0 (taken_on (Holds g.S.Sink.task g.S.Sink.takes task) (g.S.Sink.gives task) g.S.Sink.io c.pieces.sink
          _ _ _ _ c.pieces.taken i.way _ _ (has_failed c.feed.new.writer) _ c.in-Some.count c.in-Some.ensures
          c.feed.new.self _ tt (c.in_ok-feed.ensures.same ∙ i.way.takes.0, fed.0));
    }
