-- The result for two messages is also the result for the bytes that are read as those messages.
use Rattle.capn_answers.proofs.shared.TaskRuns.{run_answered}
use Rattle.capn_c.specs.inner.Told.{IsComparedTo}
use Rattle.capn_c.proofs.Comparisons.{compared_bounded, compared_found, compared_refused, compared_wanted}
use Rattle.capn_c.proofs.compared.compared_in.Goals as goal

pub returns-clause-found : goal.returns-clause-found
returns-clause-found c =
    compared_found c.args.form c.args.first.now c.args.second.now c.args.limits c.run_task.result
    (run_answered (λ m l x. IsComparedTo c.args.form c.args.second.now m l x) _ _ _ _ _ _ c.run_task.ensures)

pub returns-clause-refused : goal.returns-clause-refused
returns-clause-refused c =
    compared_refused c.args.form c.args.first.now c.args.second.now c.args.limits c.run_task.result
    (run_answered (λ m l x. IsComparedTo c.args.form c.args.second.now m l x) _ _ _ _ _ _ c.run_task.ensures)

pub returns-clause-memory : goal.returns-clause-memory
returns-clause-memory c w =
    compared_wanted c.args.form c.args.first.now c.args.second.now c.args.limits c.run_task.result
    (run_answered (λ m l x. IsComparedTo c.args.form c.args.second.now m l x) _ _ _ _ _ _ c.run_task.ensures) w

pub returns-clause-bounded : goal.returns-clause-bounded
returns-clause-bounded c =
    compared_bounded c.args.form c.args.first.now c.args.second.now c.args.limits c.run_task.result
    (run_answered (λ m l x. IsComparedTo c.args.form c.args.second.now m l x) _ _ _ _ _ _ c.run_task.ensures)
