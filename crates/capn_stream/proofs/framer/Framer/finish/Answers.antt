use Rattle.std.proofs.Common.{inr, refl, sym, subst, ◌∙◌}
use Rattle.capn_stream.specs.inner.Stages.{IsDone}
use Rattle.capn_stream.specs.declared.stage.Stage.{Stage}
use Rattle.capn_stream.proofs.Waiting.{frame_done}
use Rattle.capn_stream.proofs.framer.Framer.finish.Goals as goal

pub returns-in-Contents : goal.returns-in-Contents
returns-in-Contents g c =
    let is = c.self.invariant.is c.if-self.false in
    let done = subst (λ (s : Stage). IsDone s c.self.inside.frame.items) (sym c.in-Contents.is)
    (sym (c.if-end-len.true ∙ c.len.ensures ∙ c.self.inside.frame.ok.0)) in
    rw (← c.self.view_is) (
      c.if-self.false,
      inr (frame_done c.self.inside.stage c.self.inside.frame.items c.self.inside.max_words c.self.inside.ends.items
          c.self.invariant.small is done),
      refl,
    )
