-- Bytes that are read as a message have the mismatch and the survey of that message.
use Rattle.capn_answers.proofs.shared.TaskRuns.{run_answered}
use Rattle.capn_answers.specs.inner.Answered.{IsMismatchSurveyed}
use Rattle.capn_answers.proofs.SurveyedMismatches.{both_bounded, both_few, both_found, both_only}
use Rattle.capn_answers.proofs.SurveyedMismatches.{both_refused, both_surveyed, both_wanted}
use Rattle.capn_answers.proofs.mismatch_input.mismatch_and_survey_in.Goals as goal

pub returns-clause-found : goal.returns-clause-found
returns-clause-found g c =
    both_found c.args.form c.args.bytes.now c.args.limits c.run_task.result
    (run_answered (λ m l x. IsMismatchSurveyed m l x) _ _ _ _ _ _ c.run_task.ensures)

pub returns-clause-surveyed : goal.returns-clause-surveyed
returns-clause-surveyed g c =
    both_surveyed c.args.form c.args.bytes.now c.args.limits c.run_task.result
    (run_answered (λ m l x. IsMismatchSurveyed m l x) _ _ _ _ _ _ c.run_task.ensures)

pub returns-clause-only : goal.returns-clause-only
returns-clause-only g c v d =
    both_only c.args.form c.args.bytes.now c.args.limits c.run_task.result
    (run_answered (λ m l x. IsMismatchSurveyed m l x) _ _ _ _ _ _ c.run_task.ensures) v d

pub returns-clause-short : goal.returns-clause-short
returns-clause-short g c =
    both_few c.args.form c.args.bytes.now c.args.limits c.run_task.result
    (run_answered (λ m l x. IsMismatchSurveyed m l x) _ _ _ _ _ _ c.run_task.ensures)

pub returns-clause-refused : goal.returns-clause-refused
returns-clause-refused g c =
    both_refused c.args.form c.args.bytes.now c.args.limits c.run_task.result
    (run_answered (λ m l x. IsMismatchSurveyed m l x) _ _ _ _ _ _ c.run_task.ensures)

pub returns-clause-memory : goal.returns-clause-memory
returns-clause-memory g c w =
    both_wanted c.args.form c.args.bytes.now c.args.limits c.run_task.result
    (run_answered (λ m l x. IsMismatchSurveyed m l x) _ _ _ _ _ _ c.run_task.ensures) w

pub returns-clause-bounded : goal.returns-clause-bounded
returns-clause-bounded g c =
    both_bounded c.args.form c.args.bytes.now c.args.limits c.run_task.result
    (run_answered (λ m l x. IsMismatchSurveyed m l x) _ _ _ _ _ _ c.run_task.ensures)
