use Rattle.capn_pack.proofs.StartLemmas.{row_started}
use Rattle.capn_pack.proofs.RowLemmas.{row_more, row_join}
use Rattle.capn_pack.proofs.shared.StreamLemmas.{begins, splits_cut}
use Rattle.capn_pack.proofs.text_piece.take_groups.Goals as goal

pub returns-in-Err-Memory-clause-err : goal.returns-in-Err-Memory-clause-err
returns-in-Err-Memory-clause-err g c =
    let refused = rw c.in-Err-Memory.field-0-is at c.in-Err-Memory.ensures in
    rw refused.1 (begins _ _ _ _ (row_join _ _ _ _ _ _ c.loop-at.invariant c.in-Ok.ensures.row))

pub returns-in-Err-Cut-clause-ok : goal.returns-in-Err-Cut-clause-ok
returns-in-Err-Cut-clause-ok g c =
    let cut = rw c.in-Err-Cut.field-0-is at c.in-Err-Cut.ensures in
    rw cut.2 (splits_cut _ _ _ _ 256 (row_join _ _ _ _ _ _ c.loop-at.invariant c.in-Ok.ensures.row) cut.0)

pub returns-in-Err-clause-err : goal.returns-in-Err-clause-err
returns-in-Err-clause-err g c = rw c.in-Err.ensures.err (begins _ _ _ _ c.loop-at.invariant)

pub loop-at-preserved-in-Ok-take_group : goal.loop-at-preserved-in-Ok-take_group
loop-at-preserved-in-Ok-take_group g c =
    row_more _ _ _ _ 256 _ _ _ (row_join _ _ _ _ _ _ c.loop-at.invariant c.in-Ok.ensures.row) c.in-Ok-take_group.ensures

pub loop-at-preserved : goal.loop-at-preserved
loop-at-preserved g c = row_join _ _ _ _ _ _ c.loop-at.invariant c.in-Ok.ensures.row

pub returns-in-Err-clause-memory : goal.returns-in-Err-clause-memory
returns-in-Err-clause-memory g c none = row_started _ _ _ _ _ c.loop-at.invariant c.in-Err.ensures.memory none

pub returns-in-Err-Memory-clause-memory : goal.returns-in-Err-Memory-clause-memory
returns-in-Err-Memory-clause-memory g c none =
    let refused = rw c.in-Err-Memory.field-0-is at c.in-Err-Memory.ensures in
    row_started _ _ _ _ _ (row_join _ _ _ _ _ _ c.loop-at.invariant c.in-Ok.ensures.row) refused.0 none
