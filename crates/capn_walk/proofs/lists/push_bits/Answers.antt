use Rattle.std.proofs.Common.{◌∙◌, arith}
use Rattle.capn_walk.proofs.shared.Elements.{first_bits-more}
use Rattle.capn_walk.proofs.lists.push_bits.Goals as goal

pub loop-place-preserved : goal.loop-place-preserved
loop-place-preserved g c =
    let so_far = c.loop-place.invariant in
    let more = c.push_reserved.ensures in
    record {
      number = let a = so_far.number in let b = more.len in omega arith;
      room = more.capacity ∙ so_far.room;
      items = first_bits-more c.loop-place.place c.args.byte c.args.bits.now.items c.loop-place.bits.items _
          c.bit_of.result more.items so_far.items c.bit_of.ensures;
    }
