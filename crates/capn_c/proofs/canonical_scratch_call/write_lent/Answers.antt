use Rattle.std.proofs.Common.{arith, length}
use Rattle.capn_walk.specs.Limits.{AreLimits}
use Rattle.capn_c.proofs.Lent.{lent}
use Rattle.capn_c.proofs.canonical_scratch_call.write_lent.Goals as goal

pub returns : goal.returns
returns g c =
    let l = c.args.limits in
    let are : AreLimits l.message_words l.budget l.depth =
    record {
      some_words = omega arith;
      few_words = omega arith;
      small_budget = omega arith;
      some_depth = omega arith;
      small_depth = omega arith;
    } in
    let w = c.canonical_into_form_of-written.ensures in
    let bs = g.B.AskedBytes.bytes c.args.bytes in
    lent c.decision.ensures c.enough.ensures.bounded c.enough.ensures.lacking c.denotation.ensures.form c.args.form
    bs l are (length c.args.scratch.now) c.args.out.now c.canonical_into_form_of-written.new.out
    c.canonical_into_form_of-written.result
    (record { written = w.written; refused = w.refused; unchanged = w.unchanged }) w.bounded c.tell.result
    c.tell.new.report c.tell.ensures
