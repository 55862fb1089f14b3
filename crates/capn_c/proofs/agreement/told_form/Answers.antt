use Rattle.std.proofs.Common.{arith, length}
use Rattle.capn_walk.specs.Limits.{AreLimits}
use Rattle.capn_c.proofs.Lent.{lent}
use Rattle.capn_c.proofs.agreement.told_form.Goals as goal

pub returns-clause-lent : goal.returns-clause-lent
returns-clause-lent c =
    let l = c.args.limits in
    let are : AreLimits l.message_words l.budget l.depth =
    record {
      some_words = omega arith;
      few_words = omega arith;
      small_budget = omega arith;
      some_depth = omega arith;
      small_depth = omega arith;
    } in
    let w = c.canonical_into_form-written.ensures in
    lent c.decision.ensures c.enough.ensures.bounded c.enough.ensures.lacking c.denotation.ensures.form c.args.form
    c.args.bytes.now l are (length c.args.scratch.now) c.args.out.now c.canonical_into_form-written.new.out
    c.canonical_into_form-written.result
    (record { written = w.written; refused = w.refused; unchanged = w.unchanged }) w.bounded c.tell-status.result
    c.tell-status.new.report c.tell-status.ensures
