use Rattle.std.proofs.Common.{sym, ◌∙◌}
use Rattle.capn_quoted.specs.Reading.{unquoted, wrong_at}
use Rattle.capn_quoted.proofs.Readings.{step, step_wrong, ended}
use Rattle.capn_quoted.proofs.Takes.{some_taken}
use Rattle.capn_quoted.proofs.reading.unquoted.Goals as goal

pub loop-rest-preserved : goal.loop-rest-preserved
loop-rest-preserved g c = record {
  read = step c.loop-rest.stage c.in-Some.next c.loop-rest.bytes.items c.loop-rest.rest.now c.give.new.bytes.items
      (unquoted c.args.text.now) c.in-len1-up.len_at_least (sym c.follow.ensures ∙ c.in-Some.is)
      c.in_ok-give.ensures c.loop-rest.invariant.read;
  wrong = step_wrong c.loop-rest.stage c.in-Some.next c.loop-rest.rest.now (wrong_at c.args.text.now)
      c.in-len1-up.len_at_least (sym c.follow.ensures ∙ c.in-Some.is) c.loop-rest.invariant.wrong;
}

pub returns-then-is_closed-clause-some : goal.returns-then-is_closed-clause-some
returns-then-is_closed-clause-some g c =
    some_taken c.args.text.now c.loop-rest.bytes.items (ended c.loop-rest.stage c.loop-rest.bytes.items
    c.loop-rest.rest.now (unquoted c.args.text.now) c.in_default.len_below
    (sym c.is_closed.ensures ∙ c.if-is_closed.true) c.loop-rest.invariant.read)
