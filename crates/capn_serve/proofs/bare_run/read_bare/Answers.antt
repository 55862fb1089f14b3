use Rattle.std.proofs.Common.{◌*◌, ◌≤◌, refl, arith}
use Rattle.std.proofs.lemmas.Result.{err_from_is_err_and}
use Rattle.capn_words.specs.Message.{most_words}
use Rattle.capn_serve.proofs.BareEnds.{read_long, read_short, unread_bare}
use Rattle.capn_serve.proofs.bare_run.read_bare.Goals as goal

pub returns-in_err-input : goal.returns-in_err-input
returns-in_err-input g c =
    let p = err_from_is_err_and c.from_residual.result c.from_residual.ensures.1 in
    rw (p.1, p.2) (unread_bare c.args.at _ _ _ c.in_err-input.field-0.0 c.in_err-input.ensures)

pub returns-then-input : goal.returns-then-input
returns-then-input g c =
    let short : c.in_ok-input.input.len ≤ 8 * most_words = omega arith in
    read_short c.args.at _ _ _ _ c.in_ok-input.input c.in_ok-input.ensures short

pub returns : goal.returns
returns g c =
    read_long c.args.at _ _ _ (8 * most_words) c.in_ok-input.input c.in_ok-input.ensures
    c.bare_fault-fault.result _ refl c.bare_fault-fault.ensures
