use Rattle.std.proofs.lemmas.Result.{err_from_is_err_and}
use Rattle.capn_commands.proofs.Unpacked.{some_refused, some_unwritten}
use Rattle.capn_commands.proofs.unpack_run.write_some.Goals as goal

pub returns-in_err-progress : goal.returns-in_err-progress
returns-in_err-progress g c =
    let p = err_from_is_err_and c.from_residual.result c.from_residual.ensures.1 in
    rw (p.1, p.2) (some_refused c.args.bytes.now _ _ c.requires.fine)

pub returns-in_err-write_all : goal.returns-in_err-write_all
returns-in_err-write_all g c =
    let p = err_from_is_err_and c.from_residual-in_err-write_all.result c.from_residual-in_err-write_all.ensures.1 in
    let progress = c.in_ok-progress.progress in
    let wrote = c.in_err-write_all.ensures in
    rw (p.1, p.2)
    (some_unwritten c.args.bytes.now _ _ _ progress.bytes progress.words progress.next _ _ _ _ c.clear.ensures.items
    c.in_ok-progress.ensures.some (rw c.deref.ensures.value at wrote.begun) c.requires.fine wrote.failed)
