use Rattle.std.proofs.Common.{arith}
use Rattle.capn_text.specs.inner.Tokens.{number_line_at}
use Rattle.capn_text.proofs.StopLaws.{idle_none}
use Rattle.capn_text.proofs.LostLines.{number_stop}
use Rattle.capn_text.proofs.tokens.number_line_at.Goals as goal

pub returns-in-Err-clause-value : goal.returns-in-Err-clause-value
returns-in-Err-clause-value c =
    rw c.stop_in.ensures (number_stop c.args.level c.requires c.args.greatest (omega arith) c.args.text.now
    (idle_none c.in-Err.field-0 (number_line_at c.args.greatest c.args.level c.args.text.now) c.in-Err.ensures.value))
