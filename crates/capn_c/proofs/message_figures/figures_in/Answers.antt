-- The figures of a message are also the figures of the bytes that are read as that message.
use Rattle.capn_answers.proofs.shared.TaskRuns.{run_answered}
use Rattle.capn_canon.specs.Refusal.{IsUnaccepted}
use Rattle.capn_c.specs.Figures.{AreFigures}
use Rattle.capn_c.specs.inner.Told.{AreFiguresTold}
use Rattle.capn_c.proofs.FiguresTold.{figures_read}
use Rattle.capn_c.proofs.message_figures.figures_in.Goals as goal

pub returns : goal.returns
returns g c =
    let r = c.ask_message-answer in
    figures_read c.args.form (g.B.AskedInput.bytes c.args.bytes) c.args.limits r.result.0
    (run_answered (λ m l x. AreFiguresTold (AreFigures m l) (IsUnaccepted m l) ⊥ l.budget x) _ _ _ _ _ _ r.ensures)
