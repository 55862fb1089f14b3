-- The text of a message is also the text of the bytes that are read as that message.
use Rattle.capn_answers.proofs.shared.TaskRuns.{run_answered}
use Rattle.capn_c.specs.inner.Told.{IsTextTold}
use Rattle.capn_c.proofs.Shown.{text_bounded, text_found, text_refused, text_surveyed, text_wanted}
use Rattle.capn_c.proofs.message_text.text_in.Goals as goal

pub returns-clause-found : goal.returns-clause-found
returns-clause-found c =
    text_found c.args.form c.args.bytes.now c.args.limits c.args.style c.run_task.result
    (run_answered (λ m l x. IsTextTold m l c.args.style x) _ _ _ _ _ _ c.run_task.ensures)

pub returns-clause-surveyed : goal.returns-clause-surveyed
returns-clause-surveyed c =
    text_surveyed c.args.form c.args.bytes.now c.args.limits c.args.style c.run_task.result
    (run_answered (λ m l x. IsTextTold m l c.args.style x) _ _ _ _ _ _ c.run_task.ensures)

pub returns-clause-refused : goal.returns-clause-refused
returns-clause-refused c =
    text_refused c.args.form c.args.bytes.now c.args.limits c.args.style c.run_task.result
    (run_answered (λ m l x. IsTextTold m l c.args.style x) _ _ _ _ _ _ c.run_task.ensures)

pub returns-clause-memory : goal.returns-clause-memory
returns-clause-memory c w =
    text_wanted c.args.form c.args.bytes.now c.args.limits c.args.style c.run_task.result
    (run_answered (λ m l x. IsTextTold m l c.args.style x) _ _ _ _ _ _ c.run_task.ensures) w

pub returns-clause-bounded : goal.returns-clause-bounded
returns-clause-bounded c =
    text_bounded c.args.form c.args.bytes.now c.args.limits c.args.style c.run_task.result
    (run_answered (λ m l x. IsTextTold m l c.args.style x) _ _ _ _ _ _ c.run_task.ensures)
