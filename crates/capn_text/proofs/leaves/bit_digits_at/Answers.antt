use Rattle.std.proofs.lemmas.Result.{err_from_is_err_and}
use Rattle.capn_text.specs.inner.Tokens.{many, bit_at}
use Rattle.capn_text.proofs.Loops.{goes_on, ends, is_done}
use Rattle.capn_text.proofs.leaves.bit_digits_at.Goals as goal

pub returns-in_err-bit : goal.returns-in_err-bit
returns-in_err-bit g c =
    let p = err_from_is_err_and c.from_residual.result c.from_residual.ensures.1 in
    rw (p.1, p.2) (ends bit_at c.loop.items.items c.args.count c.loop.counter c.loop.rest.now
    (many bit_at c.args.count c.args.text.now) c.in_err-bit.field-0.0 c.loop-test.true c.in_err-bit.ensures
    c.loop.invariant)

pub loop-preserved : goal.loop-preserved
loop-preserved g c =
    rw c.in_ok-push.ensures.items
    (goes_on bit_at c.loop.items.items c.args.count c.loop.counter c.loop.rest.now
    (many bit_at c.args.count c.args.text.now) c.in_ok-bit.bit c.in_ok-bit.after.now c.loop-test.true
    c.in_ok-bit.ensures c.loop.invariant)

pub returns : goal.returns
returns g c =
    is_done bit_at c.loop.items.items c.args.count c.loop.counter c.loop.rest.now
    (many bit_at c.args.count c.args.text.now) c.loop-test.false c.loop.invariant
