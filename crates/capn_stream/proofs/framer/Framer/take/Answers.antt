use Rattle.std.proofs.Common.{sym, subst, ◌∙◌}
use Rattle.capn_stream.specs.inner.Stages.{IsStage}
use Rattle.capn_stream.specs.declared.stage.Stage.{Stage}
use Rattle.capn_stream.proofs.Waiting.{take_gives, waiting_ends}
use Rattle.capn_stream.proofs.framer.Framer.take.Goals as goal

pub new-requires-in-Contents-2-clause-ends : goal.new-requires-in-Contents-2-clause-ends
new-requires-in-Contents-2-clause-ends g c =
    let is = subst (λ (s : Stage). IsStage s c.self.inside.frame.items c.self.inside.max_words c.self.inside.ends.items)
    c.in-Contents.is (c.self.invariant.is c.if-self.false) in
    let done = sym (c.if-end-len.true ∙ c.len.ensures ∙ c.self.inside.frame.ok.0) in
    rw (c.replace-frame.ensures.value, c.replace-ends.ensures.value)
    (waiting_ends c.self.inside.frame.items c.self.inside.max_words c.in-Contents.start c.in-Contents.end
    c.self.inside.ends.items c.self.invariant.small is done)

pub returns-in-Contents : goal.returns-in-Contents
returns-in-Contents g c =
    let is = subst (λ (s : Stage). IsStage s c.self.inside.frame.items c.self.inside.max_words c.self.inside.ends.items)
    c.in-Contents.is (c.self.invariant.is c.if-self.false) in
    let done = sym (c.if-end-len.true ∙ c.len.ensures ∙ c.self.inside.frame.ok.0) in
    let message = rw (c.replace-frame.ensures.value, c.replace-ends.ensures.value) at c.new-in-Contents-2.ensures in
    rw (← c.self.view_is, c.replace-frame.ensures.after, c.new.ensures.items)
    (take_gives c.self.inside.frame.items c.self.inside.max_words c.in-Contents.start c.in-Contents.end
    c.self.inside.ends.items c.self.inside.failed c.new-in-Contents-2.result c.self.invariant.small is done
    c.if-self.false message)
