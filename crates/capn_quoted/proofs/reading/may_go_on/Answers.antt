use Rattle.std.proofs.Common.{sym, ◌∙◌}
use Rattle.capn_quoted.specs.Reading.{may_go_on}
use Rattle.capn_quoted.proofs.Readings.{step_on}
use Rattle.capn_quoted.proofs.reading.may_go_on.Goals as goal

pub loop-rest-preserved : goal.loop-rest-preserved
loop-rest-preserved c =
    step_on c.loop-rest.stage c.in-Some.next c.loop-rest.rest.now (may_go_on c.args.text.now) c.in-len1-up.len_at_least
    (sym c.follow.ensures ∙ c.in-Some.is) c.loop-rest.invariant
