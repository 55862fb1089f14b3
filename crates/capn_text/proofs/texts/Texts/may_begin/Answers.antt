use Rattle.std.proofs.Common.{◌++◌, sym, ◌∙◌}
use Rattle.capn_text.specs.inner.Values.{head_at}
use Rattle.capn_text.proofs.FirstLine.{begins, begins_none}
use Rattle.capn_text.proofs.LostTexts.{fails_long, is_few}
use Rattle.capn_text.proofs.texts.Texts.may_begin.Goals as goal

pub returns-in-Ok-clause-lost : goal.returns-in-Ok-clause-lost
returns-in-Ok-clause-lost c = λ e.
    rw (← c.self.view_is) (λ other more v b.
    let p = begins c.self.inside.rest.now (c.in-Ok.field-0.0, c.in-Ok.field-0.1.now) c.in-Ok.ensures.value in
    absurd (other p.0 p.1))

pub returns-in-Err-clause-lost : goal.returns-in-Err-clause-lost
returns-in-Err-clause-lost c = λ e.
    rw (← c.self.view_is) (λ other more.
    let t = c.self.inside.rest.now in
    let fails = fails_long (head_at 0) t c.in-Err.field-0 c.in-Err.ensures.place c.in-Err.ensures.value
    (sym e ∙ c.is_short.ensures) in
    begins_none (t ++ more) (fails.2 more))

pub returns-in-Err-clause-open : goal.returns-in-Err-clause-open
returns-in-Err-clause-open c = λ e.
    rw (← c.self.view_is) (is_few c.self.inside.rest.now (sym e ∙ c.is_short.ensures))
