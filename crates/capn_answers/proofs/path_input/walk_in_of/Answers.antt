-- If bytes are read as a message, the outcome of its walk is also the outcome for the bytes.
use Rattle.capn_answers.proofs.shared.TaskRuns.{run_answered}
use Rattle.capn_answers.specs.inner.Answered.{IsWalkTold}
use Rattle.capn_answers.proofs.WalksTold.{walk_bounded, walk_found, walk_only, walk_short, walk_unread, walk_wanted}
use Rattle.capn_answers.proofs.path_input.walk_in_of.Goals as goal

pub returns-clause-found : goal.returns-clause-found
returns-clause-found g c =
    walk_found c.args.form (g.B.AskedInput.bytes c.args.bytes) c.args.limits c.ask_message-answer.result.0
    (run_answered (λ m l x. IsWalkTold m l x) _ _ _ _ _ _ c.ask_message-answer.ensures)

pub returns-clause-only : goal.returns-clause-only
returns-clause-only g c v d =
    walk_only c.args.form (g.B.AskedInput.bytes c.args.bytes) c.args.limits c.ask_message-answer.result.0
    (run_answered (λ m l x. IsWalkTold m l x) _ _ _ _ _ _ c.ask_message-answer.ensures) v d

pub returns-clause-short : goal.returns-clause-short
returns-clause-short g c =
    walk_short c.args.form (g.B.AskedInput.bytes c.args.bytes) c.args.limits c.ask_message-answer.result.0
    (run_answered (λ m l x. IsWalkTold m l x) _ _ _ _ _ _ c.ask_message-answer.ensures)

pub returns-clause-refused : goal.returns-clause-refused
returns-clause-refused g c =
    walk_unread c.args.form (g.B.AskedInput.bytes c.args.bytes) c.args.limits c.ask_message-answer.result.0
    (run_answered (λ m l x. IsWalkTold m l x) _ _ _ _ _ _ c.ask_message-answer.ensures)

pub returns-clause-memory : goal.returns-clause-memory
returns-clause-memory g c w =
    walk_wanted c.args.form (g.B.AskedInput.bytes c.args.bytes) c.args.limits c.ask_message-answer.result.0
    (run_answered (λ m l x. IsWalkTold m l x) _ _ _ _ _ _ c.ask_message-answer.ensures) w

pub returns-clause-bounded : goal.returns-clause-bounded
returns-clause-bounded g c =
    walk_bounded c.args.form (g.B.AskedInput.bytes c.args.bytes) c.args.limits c.ask_message-answer.result.0
    (run_answered (λ m l x. IsWalkTold m l x) _ _ _ _ _ _ c.ask_message-answer.ensures)
