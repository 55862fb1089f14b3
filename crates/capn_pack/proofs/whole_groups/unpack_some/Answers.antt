use Rattle.std.proofs.Common.{OnErr, Result, Ok, Err}
use Rattle.std.proofs.lemmas.List.{drop_all}
use Rattle.capn_pack.proofs.WholeGroupLemmas.{appended_more, appended_none, appended_row, cut_next, long_next}
use Rattle.capn_pack.proofs.WholeGroupLemmas.{some_appended}
use Rattle.capn_pack.proofs.WholeGroupLemmas.{some_next, some_starts}
use Rattle.capn_pack.proofs.whole_groups.unpack_some.Goals as goal

on_err : {T E X : Type 0} (r : Result T E) → X → OnErr r X
on_err (Ok t) x = tt
on_err (Err e) x = x

pub loop-at-init : goal.loop-at-init
loop-at-init g c = appended_none _ _ _

pub loop-at-preserved-in-Ok : goal.loop-at-preserved-in-Ok
loop-at-preserved-in-Ok g c =
    let row = c.in_ok-row.ensures in
    appended_more _ _ _ _ _ _ _ _ _ (appended_row _ _ _ _ _ _ _ _ _ c.loop-at.invariant row.row row.counted row.fits)
    c.in-Ok.ensures

pub loop-at-preserved : goal.loop-at-preserved
loop-at-preserved g c =
    let row = c.in_ok-row.ensures in
    appended_row _ _ _ _ _ _ _ _ _ c.loop-at.invariant row.row row.counted row.fits

pub returns-in_err-row-clause-begun : goal.returns-in_err-row-clause-begun
returns-in_err-row-clause-begun g c =
    on_err c.from_residual.result (rw c.in_err-row.ensures.err (some_appended _ _ _ _ _ _ c.loop-at.invariant))

pub returns-in_err-row-clause-memory : goal.returns-in_err-row-clause-memory
returns-in_err-row-clause-memory g c =
    on_err c.from_residual.result (some_starts _ _ _ _ _ _ c.loop-at.invariant c.in_err-row.ensures.memory)

pub returns-in-Err-Memory-clause-begun : goal.returns-in-Err-Memory-clause-begun
returns-in-Err-Memory-clause-begun g c =
    let row = c.in_ok-row.ensures in
    let refused = rw c.in-Err-Memory.field-0-is at c.in-Err-Memory.ensures in
    rw refused.1
    (some_appended _ _ _ _ _ _ (appended_row _ _ _ _ _ _ _ _ _ c.loop-at.invariant row.row row.counted row.fits))

pub returns-in-Err-Memory-clause-memory : goal.returns-in-Err-Memory-clause-memory
returns-in-Err-Memory-clause-memory g c =
    let row = c.in_ok-row.ensures in
    let refused = rw c.in-Err-Memory.field-0-is at c.in-Err-Memory.ensures in
    some_starts _ _ _ _ _ _ (appended_row _ _ _ _ _ _ _ _ _ c.loop-at.invariant row.row row.counted row.fits) refused.0

pub returns-in-Err-Cut-clause-some : goal.returns-in-Err-Cut-clause-some
returns-in-Err-Cut-clause-some g c =
    let row = c.in_ok-row.ensures in
    let cut = rw c.in-Err-Cut.field-0-is at c.in-Err-Cut.ensures in
    rw cut.2
    (cut_next _ _ _ _ _ _ _ _ _
    (appended_row _ _ _ _ _ _ _ _ _ c.loop-at.invariant row.row row.counted row.fits)
    c.stopped.ensures.bytes c.stopped.ensures.words c.stopped.ensures.next (cut.0, cut.1))

pub returns-in-Err-TooLong-clause-some : goal.returns-in-Err-TooLong-clause-some
returns-in-Err-TooLong-clause-some g c =
    let row = c.in_ok-row.ensures in
    let long = rw c.in-Err-TooLong.field-0-is at c.in-Err-TooLong.ensures in
    let is = c.stopped-in-Err-TooLong.ensures in
    rw long.1
    (long_next _ _ _ _ _ _ _ _ _
    (appended_row _ _ _ _ _ _ _ _ _ c.loop-at.invariant row.row row.counted row.fits) is.bytes is.words is.next long.0)

pub returns-clause-some : goal.returns-clause-some
returns-clause-some g c =
    let is = c.stopped-2.ensures in
    some_next _ _ _ _ _ _ _ _ _ _ c.loop-at.invariant is.bytes is.words is.next
    (drop_all _ c.args.bytes.now c.loop-at-test.false)
