use Rattle.std.proofs.Common.{Ok, Err, ap}
use Rattle.std.proofs.lemmas.Result.{err_from_is_err_and}
use Rattle.capn_serve.specs.declared.service.Run.{Run}
use Rattle.capn_commands.specs.declared.message_texts.MessageTexts.{MessageTexts}
use Rattle.capn_commands.proofs.PackedServed.{packed_served}
use Rattle.capn_commands.proofs.Served.{is_first}
use Rattle.capn_commands.proofs.message_stream.run_each_packed.Goals as goal

pub run_packed-requires-clause-fresh : goal.run_packed-requires-clause-fresh
run_packed-requires-clause-fresh g c = ap (λ (x : Run MessageTexts). x.at) c.first_run-run.ensures

pub returns-in_err-run_packed : goal.returns-in_err-run_packed
returns-in_err-run_packed g c =
    let p = err_from_is_err_and c.from_residual.result c.from_residual.ensures.1 in
    rw (p.1, p.2)
    (packed_served c.args.piece c.args.limits c.first_run-run.result
    (is_first c.args.piece c.args.limits c.first_run-run.result c.first_run-run.ensures) c.message_words-most.result
    c.message_words-most.ensures.value _ _ _ _ _ _ (Err c.in_err-run_packed.field-0.0) _ c.in_err-run_packed.ensures)

pub returns : goal.returns
returns g c =
    packed_served c.args.piece c.args.limits c.first_run-run.result
    (is_first c.args.piece c.args.limits c.first_run-run.result c.first_run-run.ensures) c.message_words-most.result
    c.message_words-most.ensures.value _ _ _ _ _ _ (Ok tt) _ c.in_ok-run_packed.ensures
