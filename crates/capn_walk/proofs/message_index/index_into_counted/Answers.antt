use Rattle.std.proofs.lemmas.Result.{err_from_is_err_and}
use Rattle.capn_walk.proofs.RootWalks.{not-refused}
use Rattle.capn_walk.proofs.RootIndexes.{indexed, unindexed}
use Rattle.capn_walk.proofs.KeptRooms.{kept-first}
use Rattle.capn_walk.proofs.message_index.index_into_counted.Goals as goal

pub returns-in_err-told-clause-only : goal.returns-in_err-told-clause-only
returns-in_err-told-clause-only g c is =
    let m = c.args.space.now in
    let t = c.in_ok-target in
    let s = c.in_err-told.field-0.0 in
    let r = rw (c.depth.ensures.value, c.budget.ensures.value, c.base.ensures.value, c.tariff.ensures) at
    c.in_err-told.ensures.indexes in
    let e = unindexed (g.F.EntryForm.written c.args.form.now) m c.args.limits t.ensures.place t.target t.ensures.target
    t.ensures.kind c.args.room.now c.index_found.new.room s r in
    absurd (not-refused m c.args.limits s.fault s.place s.paid s.visits is e)

pub returns-in_err-told-clause-refused : goal.returns-in_err-told-clause-refused
returns-in_err-told-clause-refused g c =
    let m = c.args.space.now in
    let t = c.in_ok-target in
    let s = c.in_err-told.field-0.0 in
    let r = rw (c.depth.ensures.value, c.budget.ensures.value, c.base.ensures.value, c.tariff.ensures) at
    c.in_err-told.ensures.indexes in
    let e = unindexed (g.F.EntryForm.written c.args.form.now) m c.args.limits t.ensures.place t.target t.ensures.target
    t.ensures.kind c.args.room.now c.index_found.new.room s r in
    let p = err_from_is_err_and c.from_residual-in_err-told.result c.from_residual-in_err-told.ensures.1 in
    rw (p.1, p.2) e

pub returns-clause-found : goal.returns-clause-found
returns-clause-found g c =
    let m = c.args.space.now in
    let t = c.in_ok-target in
    let x = c.in_ok-told in
    let r = rw (c.depth.ensures.value, c.budget.ensures.value, c.base.ensures.value, c.tariff.ensures) at
    x.ensures.indexes in
    indexed (g.F.EntryForm.written c.args.form.now) m c.args.limits t.ensures.place t.target t.ensures.target
    t.ensures.kind c.args.room.now c.index_found.new.room x.told r

pub returns-in_err-told-clause-kept : goal.returns-in_err-told-clause-kept
returns-in_err-told-clause-kept g c =
    let p = err_from_is_err_and c.from_residual-in_err-told.result c.from_residual-in_err-told.ensures.1 in
    rw (p.1, p.2)
    (kept-first c.in_err-told.field-0.0.visits c.args.room.now c.index_found.new.room c.in_err-told.ensures.kept)
