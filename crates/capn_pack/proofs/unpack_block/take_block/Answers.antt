use Rattle.std.proofs.Common.{arith, ap, sym, ◌∙◌, ◌++◌, length, take, length-append, length-take}
use Rattle.std.proofs.lemmas.List.{append-nil}
use Rattle.std.proofs.lemmas.Result.{err_from_is_err_and}
use Rattle.capn_pack.proofs.StartLemmas.{row_starts}
use Rattle.capn_pack.proofs.RowLemmas.{row_behind, row_whole}
use Rattle.capn_pack.proofs.unpack_block.take_block.Goals as goal

pub returns-clause-row : goal.returns-clause-row
returns-clause-row g c =
    let block = c.fill_block-filled.new.block in
    row_behind _ _ _ _ _ c.fill_block-filled.ensures.row
    (c.in_ok-extend_from_slice.ensures.items
    ∙ ap (λ l. l ++ take c.fill_block-filled.result.fill block) c.reserve.ensures.items)

pub returns-clause-counted : goal.returns-clause-counted
returns-clause-counted g c =
    let filled = c.fill_block-filled.result.fill in
    let block = c.fill_block-filled.new.block in
    omega (
      arith,
      (row_whole _ _ _ c.fill_block-filled.ensures.row).1,
      ap length c.in_ok-extend_from_slice.ensures.items,
      ap length c.reserve.ensures.items,
      length-append c.reserve.new.self.items (take filled block),
      length-take filled block,
    )

pub returns-in_err-reserve-clause-memory : goal.returns-in_err-reserve-clause-memory
returns-in_err-reserve-clause-memory g c =
    let filled = c.fill_block-filled.result.fill in
    let block = c.fill_block-filled.new.block in
    let size = length-take filled block in
    let p = err_from_is_err_and c.from_residual.result c.from_residual.ensures.1 in
    rw p.1
    (row_starts c.args.rest.now c.fill_block-filled.result.at c.args.room (take filled block)
    c.fill_block-filled.ensures.row (omega (arith, c.if-filled-eq0.false, size, c.fill_block-filled.ensures.within))
    (omega (arith, size, c.fill_block-filled.ensures.within, c.min-limit.ensures)))

pub returns-then-filled-eq0-clause-row : goal.returns-then-filled-eq0-clause-row
returns-then-filled-eq0-clause-row g c =
    let out = c.args.out.now.items in
    let block = c.fill_block-filled.new.block in
    row_behind _ _ _ _ _ c.fill_block-filled.ensures.row
    (sym (append-nil out) ∙ ap (λ n. out ++ take n block) (sym c.if-filled-eq0.true))
