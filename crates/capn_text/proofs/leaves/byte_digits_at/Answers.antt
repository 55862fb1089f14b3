use Rattle.std.proofs.lemmas.Result.{err_from_is_err_and}
use Rattle.capn_text.specs.inner.Tokens.{many, byte_at}
use Rattle.capn_text.proofs.Loops.{goes_on, ends, is_done}
use Rattle.capn_text.proofs.leaves.byte_digits_at.Goals as goal

pub returns-in_err-byte : goal.returns-in_err-byte
returns-in_err-byte g c =
    let p = err_from_is_err_and c.from_residual.result c.from_residual.ensures.1 in
    rw (p.1, p.2) (ends byte_at c.loop.items.items c.args.count c.loop.counter c.loop.rest.now
    (many byte_at c.args.count c.args.text.now) c.in_err-byte.field-0.0 c.loop-test.true c.in_err-byte.ensures
    c.loop.invariant)

pub loop-preserved : goal.loop-preserved
loop-preserved g c =
    rw c.in_ok-push.ensures.items
    (goes_on byte_at c.loop.items.items c.args.count c.loop.counter c.loop.rest.now
    (many byte_at c.args.count c.args.text.now) c.in_ok-byte.byte c.in_ok-byte.after.now c.loop-test.true
    c.in_ok-byte.ensures c.loop.invariant)

pub returns : goal.returns
returns g c =
    is_done byte_at c.loop.items.items c.args.count c.loop.counter c.loop.rest.now
    (many byte_at c.args.count c.args.text.now) c.loop-test.false c.loop.invariant
