-- The clause of `of_frame`: bytes that begin with no frame are refused.
use Rattle.std.proofs.Common.{subst, ℕ, ap, Err}
use Rattle.capn_stream.specs.FrameRefusal.{HasTable, IsFrameRefused}
use Rattle.capn_stream.specs.declared.fault.FrameFault.{FrameFault}
use Rattle.capn_canon.proofs.calls.ReadInput.{frame_unread}
use Rattle.capn_canon.proofs.input.of_frame.Goals as goal

pub returns-in_err-message : goal.returns-in_err-message
returns-in_err-message g c =
    let answers = g.T.MessageTask.answers in
    let bs = c.args.bytes.now in
    let f = c.in_err-message.field-0.0 in
    frame_unread answers bs c.args.limits c.args.task.now c.from_residual.result f c.from_residual.ensures.1
    (subst (λ (n : ℕ). IsFrameRefused bs n f) c.message_words.ensures.value c.in_err-message.ensures.refused)
    (λ e. subst (λ (n : ℕ). HasTable bs n) c.message_words.ensures.value
    (c.in_err-message.ensures.memory (ap (λ (x : FrameFault). Err x) e)))
