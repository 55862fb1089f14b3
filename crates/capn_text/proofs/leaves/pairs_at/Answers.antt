use Rattle.std.proofs.Common.{arith}
use Rattle.std.proofs.lemmas.Result.{err_from_is_err_and}
use Rattle.capn_text.specs.inner.Tokens.{many, number_line_at}
use Rattle.capn_text.proofs.Loops.{goes_on, is_done}
use Rattle.capn_text.proofs.StopLaws.{passes_on, one_fails}
use Rattle.capn_text.proofs.LineStops.{number_local, number_full, number_fails}
use Rattle.capn_text.proofs.TreeStops.{numbers_by}
use Rattle.capn_text.proofs.leaves.pairs_at.Goals as goal

pub returns-in_err-number : goal.returns-in_err-number
returns-in_err-number g c =
    let p = err_from_is_err_and c.from_residual.result c.from_residual.ensures.1 in
    rw (p.1, p.2)
    (one_fails (numbers_by 65535 c.args.level) (number_local c.args.level 65535 (omega arith)) 0
    (number_full c.args.level 65535 (omega arith)) c.args.count c.loop.counter c.loop.rest.now c.args.text.now
    c.loop-test.true c.loop.invariant.passes_on c.in_err-number.field-0.0
    (number_fails c.args.level 65535 (omega arith) 0 c.in_err-number.field-0.0 c.loop.rest.now
    c.in_err-number.ensures.value))

pub loop-preserved : goal.loop-preserved
loop-preserved g c =
    let one = number_line_at 65535 c.args.level in
    record {
      so_far = rw c.in_ok-push.ensures.items
          (goes_on one c.loop.items.items c.args.count c.loop.counter c.loop.rest.now
          (many one c.args.count c.args.text.now) c.in_ok-number.number c.in_ok-number.after.now c.loop-test.true
          c.in_ok-number.ensures.value c.loop.invariant.so_far);
      passes_on = passes_on (numbers_by 65535 c.args.level) (number_local c.args.level 65535 (omega arith)) 0
          c.args.count c.loop.counter c.loop.rest.now c.args.text.now c.in_ok-number.number c.in_ok-number.after.now
          c.loop-test.true c.in_ok-number.ensures.value c.loop.invariant.passes_on;
    }

pub returns : goal.returns
returns g c =
    let one = number_line_at 65535 c.args.level in
    is_done one c.loop.items.items c.args.count c.loop.counter c.loop.rest.now
    (many one c.args.count c.args.text.now) c.loop-test.false c.loop.invariant.so_far
