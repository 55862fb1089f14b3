use Rattle.std.proofs.Common.{◌<◌, length, arith, inl, inr}
use Rattle.capn_value.proofs.Sized.{words_uneven, slots_uneven, still_even, all_even}
use Rattle.capn_value.proofs.part_flaws.are_even.Goals as goal

pub returns-then-len-words : goal.returns-then-len-words
returns-then-len-words g c =
    let at : c.loop-body.body-index < length c.args.bodies.now = omega arith in
    elim c.then-len-words.branch-raw [
      | inl w ↦ words_uneven c.args.bodies.now _ _ _ c.loop-body.invariant c.body-item.result at c.body-item.is
          c.len.ensures w.if-len-words.true
      | inr w ↦ slots_uneven c.args.bodies.now _ _ _ c.loop-body.invariant c.body-item.result at c.body-item.is
          c.len.ensures w.len-else-len-words.ensures w.if-len-words.false w.if-len-slots.true
    ]

pub loop-body-preserved : goal.loop-body-preserved
loop-body-preserved g c =
    still_even c.args.bodies.now _ _ _ c.loop-body.invariant c.body-item.result (omega arith) c.body-item.is
    c.len.ensures c.len-else-len-words.ensures c.if-len-words.false c.if-len-slots.false

pub returns : goal.returns
returns g c = all_even c.args.bodies.now _ _ _ c.loop-body.invariant (omega arith)
