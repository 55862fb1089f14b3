-- The message that is read is the message of the segments.
use Rattle.std.proofs.Common.{ℕ, List, inl, subst}
use Rattle.capn_c.proofs.held_message.run_held.Goals as goal

pub returns : goal.returns
returns g c =
    let exact = c.in_ok-message.ensures.exact in
    inl (
      exact.1,
      subst
          (λ (m : List (List ℕ)).
          g.T.MessageTask.answers c.args.task.now m c.args.limits c.run.result c.run.new.self) exact.0 c.run.ensures,
    )
