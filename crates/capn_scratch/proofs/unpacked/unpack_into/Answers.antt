use Rattle.std.proofs.Common.{◌≡◌, ℕ, ◌-◌, ◌*◌, take, subst, arith}
use Rattle.capn_pack.specs.Packed.{Packs}
use Rattle.capn_pack.specs.UnpackRefusal.{IsCut, IsTooLong}
use Rattle.capn_scratch.proofs.Groups.{stands, unpacked_all, unpacked_more}
use Rattle.capn_scratch.proofs.unpacked.unpack_into.Goals as goal

pub loop-at-preserved : goal.loop-at-preserved
loop-at-preserved g c =
    let l = c.loop-at in
    let is = c.in-Ok.ensures.size in
    record {
      unpacked = unpacked_more _ _ _ _ _ _ _ _ l.invariant.unpacked
          (rw c.rest-rest.ensures at c.put_group.ensures.takes) is.5;
      filled = omega (arith, l.invariant.filled, is.5);
      long = omega (arith, l.invariant.long);
      steps = omega (
        arith,
        c.tick.ensures,
        c.in-Ok.ensures.steps,
        c.put_group.ensures.steps,
        l.invariant.steps,
        is.4,
        is.5,
      );
    }

pub returns-in-Err-Cut-clause-refused : goal.returns-in-Err-Cut-clause-refused
returns-in-Err-Cut-clause-refused g c =
    stands IsCut _ _ _ _ _ c.loop-at.invariant.unpacked
    (rw (c.in-Err-Cut.field-0-is, c.rest-rest.ensures) at c.in-Err-Cut.ensures.size)

pub returns-in-Err-TooLong-clause-refused : goal.returns-in-Err-TooLong-clause-refused
returns-in-Err-TooLong-clause-refused g c =
    stands IsTooLong _ _ _ _ _ c.loop-at.invariant.unpacked
    (rw (c.in-Err-TooLong.field-0-is, c.rest-rest.ensures) at c.in-Err-TooLong.ensures.size)

pub returns-clause-found : goal.returns-clause-found
returns-clause-found g c =
    let l = c.loop-at in
    let size : l.fill ≡ 8 * (c.args.max_words - l.room) = omega (arith, l.invariant.filled) in
    subst (λ (n : ℕ). Packs c.args.bytes.now (take n l.out)) size
    (unpacked_all _ _ _ _ _ l.invariant.unpacked (omega arith))
