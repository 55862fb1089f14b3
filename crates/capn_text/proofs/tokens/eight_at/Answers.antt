use Rattle.std.proofs.Common.{◌≡◌, ◌<◌, ◌-◌, ◌+◌, length, take, arith, ap, ◌∙◌}
use Rattle.std.proofs.lemmas.List.{length-set, take_more_set, take_all}
use Rattle.std.proofs.lemmas.Result.{err_from_is_err_and}
use Rattle.capn_text.specs.inner.Tokens.{many, byte_at}
use Rattle.capn_text.proofs.Loops.{with_front, goes_on, ends, is_done}
use Rattle.capn_text.proofs.tokens.eight_at.Goals as goal

pub returns-in_err-byte : goal.returns-in_err-byte
returns-in_err-byte c =
    let p = err_from_is_err_and c.from_residual.result c.from_residual.ensures.1 in
    rw (p.1, p.2) (ends byte_at (take c.loop-i.i c.loop-i.bytes) 8 c.loop-i.i c.loop-i.rest.now
    (many byte_at 8 c.args.text.now) c.in_err-byte.field-0.0 c.loop-i-test.true c.in_err-byte.ensures
    c.loop-i.invariant.so_far)

pub loop-i-preserved : goal.loop-i-preserved
loop-i-preserved c =
    let room = c.loop-i.invariant.room in
    let lt : c.loop-i.i < length c.loop-i.bytes = omega arith in
    record {
      room = length-set c.loop-i.bytes c.loop-i.i c.in_ok-byte.byte ∙ room;
      so_far = ap (λ xs. with_front xs (many byte_at (8 - (c.loop-i.i + 1)) c.in_ok-byte.after.now))
          (take_more_set c.loop-i.bytes c.loop-i.i c.in_ok-byte.byte lt)
          ∙ goes_on byte_at (take c.loop-i.i c.loop-i.bytes) 8 c.loop-i.i c.loop-i.rest.now
          (many byte_at 8 c.args.text.now) c.in_ok-byte.byte c.in_ok-byte.after.now c.loop-i-test.true
          c.in_ok-byte.ensures c.loop-i.invariant.so_far;
    }

pub returns : goal.returns
returns c =
    let room = c.loop-i.invariant.room in
    let all : take c.loop-i.i c.loop-i.bytes ≡ c.loop-i.bytes = take_all c.loop-i.i c.loop-i.bytes (omega arith) in
    let e = is_done byte_at (take c.loop-i.i c.loop-i.bytes) 8 c.loop-i.i c.loop-i.rest.now
    (many byte_at 8 c.args.text.now) c.loop-i-test.false c.loop-i.invariant.so_far in
    rw (← all) e
