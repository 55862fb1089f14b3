-- The digest of a message is also the digest of the bytes that are read as that message.
use Rattle.capn_answers.proofs.shared.TaskRuns.{run_answered}
use Rattle.capn_c.specs.inner.Told.{IsDigestTold}
use Rattle.capn_c.proofs.Digests.{digest_bounded, digest_found, digest_refused, digest_wanted}
use Rattle.capn_c.proofs.message_digest.digest_in.Goals as goal

pub returns-clause-found : goal.returns-clause-found
returns-clause-found c =
    digest_found c.args.form c.args.bytes.now c.args.limits c.run_task.result
    (run_answered (λ m l x. IsDigestTold m l x) _ _ _ _ _ _ c.run_task.ensures)

pub returns-clause-refused : goal.returns-clause-refused
returns-clause-refused c =
    digest_refused c.args.form c.args.bytes.now c.args.limits c.run_task.result
    (run_answered (λ m l x. IsDigestTold m l x) _ _ _ _ _ _ c.run_task.ensures)

pub returns-clause-memory : goal.returns-clause-memory
returns-clause-memory c w =
    digest_wanted c.args.form c.args.bytes.now c.args.limits c.run_task.result
    (run_answered (λ m l x. IsDigestTold m l x) _ _ _ _ _ _ c.run_task.ensures) w

pub returns-clause-bounded : goal.returns-clause-bounded
returns-clause-bounded c =
    digest_bounded c.args.form c.args.bytes.now c.args.limits c.run_task.result
    (run_answered (λ m l x. IsDigestTold m l x) _ _ _ _ _ _ c.run_task.ensures)
