use Rattle.capn_text.specs.inner.Values.{head_at}
use Rattle.capn_text.proofs.FirstLine.{begins, begins_none}
use Rattle.capn_text.proofs.LostTexts.{fails_short, fails_long, is_few}
use Rattle.capn_text.proofs.one_text.first_line.Goals as goal

pub returns-in-Ok-clause-some : goal.returns-in-Ok-clause-some
returns-in-Ok-clause-some c =
    begins c.args.text.now (c.in-Ok.field-0.0, c.in-Ok.field-0.1.now) c.in-Ok.ensures.value

pub returns-then-is_short-clause-other : goal.returns-then-is_short-clause-other
returns-then-is_short-clause-other c =
    begins_none c.args.text.now (fails_short (head_at 0) c.args.text.now c.in-Err.field-0 c.in-Err.ensures.place
    c.in-Err.ensures.value c.if-is_short.ensures).0

pub returns-then-is_short-clause-none : goal.returns-then-is_short-clause-none
returns-then-is_short-clause-none c =
    (fails_short (head_at 0) c.args.text.now c.in-Err.field-0 c.in-Err.ensures.place
    c.in-Err.ensures.value c.if-is_short.ensures).0

pub returns-then-is_short-clause-open : goal.returns-then-is_short-clause-open
returns-then-is_short-clause-open c = λ is. is_few c.args.text.now c.if-is_short.ensures

pub returns-else-is_short-clause-other : goal.returns-else-is_short-clause-other
returns-else-is_short-clause-other c =
    begins_none c.args.text.now (fails_long (head_at 0) c.args.text.now c.in-Err.field-0 c.in-Err.ensures.place
    c.in-Err.ensures.value c.if-is_short.ensures).0

pub returns-else-is_short-clause-none : goal.returns-else-is_short-clause-none
returns-else-is_short-clause-none c =
    (fails_long (head_at 0) c.args.text.now c.in-Err.field-0 c.in-Err.ensures.place
    c.in-Err.ensures.value c.if-is_short.ensures).0

pub returns-else-is_short-clause-lost : goal.returns-else-is_short-clause-lost
returns-else-is_short-clause-lost c = λ is.
    (fails_long (head_at 0) c.args.text.now c.in-Err.field-0 c.in-Err.ensures.place
    c.in-Err.ensures.value c.if-is_short.ensures).2
