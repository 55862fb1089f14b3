use Rattle.capn_pack.proofs.StartLemmas.{unpacked_starts}
use Rattle.capn_pack.proofs.RowLemmas.{unpacked_more, unpacked_row, unpacked_all, stands}
use Rattle.capn_pack.proofs.unpacked_words.unpack_groups.Goals as goal

pub loop-at-preserved-in-Ok : goal.loop-at-preserved-in-Ok
loop-at-preserved-in-Ok g c =
    let row = c.in_ok-row.ensures in
    unpacked_more _ _ _ _ _ _ _ _ (unpacked_row _ _ _ _ _ _ _ _ c.loop-at.invariant row.row row.counted row.fits)
    c.in-Ok.ensures

pub loop-at-preserved : goal.loop-at-preserved
loop-at-preserved g c =
    let row = c.in_ok-row.ensures in
    unpacked_row _ _ _ _ _ _ _ _ c.loop-at.invariant row.row row.counted row.fits

pub returns-in-Err-Cut-clause-refused : goal.returns-in-Err-Cut-clause-refused
returns-in-Err-Cut-clause-refused g c =
    let row = c.in_ok-row.ensures in
    stands _ _ _ _ _ _ (unpacked_row _ _ _ _ _ _ _ _ c.loop-at.invariant row.row row.counted row.fits)
    (rw c.in-Err-Cut.field-0-is at c.in-Err-Cut.ensures).0

pub returns-in-Err-TooLong-clause-refused : goal.returns-in-Err-TooLong-clause-refused
returns-in-Err-TooLong-clause-refused g c =
    let row = c.in_ok-row.ensures in
    stands _ _ _ _ _ _ (unpacked_row _ _ _ _ _ _ _ _ c.loop-at.invariant row.row row.counted row.fits)
    (rw c.in-Err-TooLong.field-0-is at c.in-Err-TooLong.ensures).0

pub returns-clause-within : goal.returns-clause-within
returns-clause-within g c = (unpacked_all _ _ _ _ _ c.loop-at.invariant c.loop-at-test.false).1

pub returns-in_err-row-clause-memory : goal.returns-in_err-row-clause-memory
returns-in_err-row-clause-memory g c is = unpacked_starts _ _ _ _ _ c.loop-at.invariant c.in_err-row.ensures.memory

pub returns-in-Err-Memory-clause-memory : goal.returns-in-Err-Memory-clause-memory
returns-in-Err-Memory-clause-memory g c is =
    let row = c.in_ok-row.ensures in
    unpacked_starts _ _ _ _ _ (unpacked_row _ _ _ _ _ _ _ _ c.loop-at.invariant row.row row.counted row.fits)
    (rw c.in-Err-Memory.field-0-is at c.in-Err-Memory.ensures).0
