use Rattle.std.proofs.Common.{[], arith}
use Rattle.capn_pack.specs.UnpackRefusal.{IsCut, IsTooLong}
use Rattle.capn_scratch.proofs.Groups.{byte_below, group_there, stands}
use Rattle.capn_scratch.proofs.Groups.{unpacked_all, unpacked_length, unpacked_more, unpacked_none}
use Rattle.capn_scratch.proofs.unpacked.unpacked_words.Goals as goal

pub loop-at-init : goal.loop-at-init
loop-at-init g c =
    record { unpacked = ([], unpacked_none c.args.bytes.now c.args.max_words); steps = omega arith }

pub loop-at-preserved : goal.loop-at-preserved
loop-at-preserved g c =
    let l = c.loop-at in
    let is = rw c.rest.ensures at c.in-Ok.ensures.size in
    let there = group_there _ l.invariant.unpacked.0 _ _
    (byte_below c.args.bytes.now l.at c.bounds.ensures) is.0 is.1 (omega arith) is.3 in
    record {
      unpacked = (there.0, unpacked_more _ _ _ _ _ _ _ _ l.invariant.unpacked.1 there.1 is.5);
      steps = omega (arith, c.tick.ensures, c.in-Ok.ensures.steps, l.invariant.steps, is.2);
    }

pub returns-in-Err-Cut-clause-refused : goal.returns-in-Err-Cut-clause-refused
returns-in-Err-Cut-clause-refused g c =
    stands IsCut _ _ _ _ _ c.loop-at.invariant.unpacked.1
    (rw (c.in-Err-Cut.field-0-is, c.rest.ensures) at c.in-Err-Cut.ensures.size)

pub returns-in-Err-TooLong-clause-refused : goal.returns-in-Err-TooLong-clause-refused
returns-in-Err-TooLong-clause-refused g c =
    stands IsTooLong _ _ _ _ _ c.loop-at.invariant.unpacked.1
    (rw (c.in-Err-TooLong.field-0-is, c.rest.ensures) at c.in-Err-TooLong.ensures.size)

pub returns-clause-found : goal.returns-clause-found
returns-clause-found g c =
    let u = c.loop-at.invariant.unpacked in
    (u.0, unpacked_all _ _ _ _ _ u.1 (omega arith), omega (arith, unpacked_length _ _ _ _ _ u.1))
