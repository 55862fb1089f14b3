use Rattle.std.proofs.Common.{Ok, Err, ap}
use Rattle.std.proofs.lemmas.Result.{err_from_is_err_and}
use Rattle.capn_serve.specs.declared.service.Run.{Run}
use Rattle.capn_commands.specs.declared.message_texts.MessageTexts.{MessageTexts}
use Rattle.capn_commands.proofs.BareServed.{bare_served}
use Rattle.capn_commands.proofs.Served.{is_first}
use Rattle.capn_commands.proofs.bare_message.run_one.Goals as goal

pub run_bare-requires-clause-fresh : goal.run_bare-requires-clause-fresh
run_bare-requires-clause-fresh g c = ap (λ (x : Run MessageTexts). x.at) c.first_run-run.ensures

pub returns-in_err-run_bare : goal.returns-in_err-run_bare
returns-in_err-run_bare g c =
    let p = err_from_is_err_and c.from_residual.result c.from_residual.ensures.1 in
    rw (p.1, p.2)
    (bare_served c.args.piece c.args.limits c.requires.unpriced 0 c.first_run-run.result
    (is_first c.args.piece c.args.limits c.first_run-run.result c.first_run-run.ensures)
    _ _ _ _ _ _ (Err c.in_err-run_bare.field-0.0) _ (c.in_err-run_bare.ensures 0))

pub returns : goal.returns
returns g c =
    bare_served c.args.piece c.args.limits c.requires.unpriced 0 c.first_run-run.result
    (is_first c.args.piece c.args.limits c.first_run-run.result c.first_run-run.ensures)
    _ _ _ _ _ _ (Ok tt) _ (c.in_ok-run_bare.ensures 0)
