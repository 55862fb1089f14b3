use Rattle.capn_text.specs.inner.Values.{head_at}
use Rattle.capn_text.proofs.StopLaws.{idle_none}
use Rattle.capn_text.proofs.LostLines.{head_stop}
use Rattle.capn_text.proofs.heads.head_at.Goals as goal

pub returns-in-Err-clause-value : goal.returns-in-Err-clause-value
returns-in-Err-clause-value c =
    rw c.stop_in.ensures (head_stop c.args.level c.requires c.args.text.now
    (idle_none c.in-Err.field-0 (head_at c.args.level c.args.text.now) c.in-Err.ensures.value))
