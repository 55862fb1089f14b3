use Rattle.std.proofs.Common.{◌≡◌, ◌*◌, arith, length, ◌∙◌}
use Rattle.byteorder.specs.Endian.{little_number}
use Rattle.capn_walk.proofs.shared.Elements.{length-read, are-pairs}
use Rattle.capn_walk.proofs.NumbersFromBytes.{next-holds, next-left, read-more}
use Rattle.capn_walk.proofs.lists.pairs_at.Goals as goal

pub next_pair-requires : goal.next_pair-requires
next_pair-requires g c =
    let inside = c.requires.content.within in
    let size = length-read c.args.space.now c.args.at (2 * c.args.count) c.bytes-bytes.result
    c.bytes-bytes.ensures.bytes (omega arith) in
    next-holds 2 (2 * c.loop-i.i) c.bytes-bytes.result c.loop-i.bytes c.loop-i.invariant.left (omega arith)

pub loop-i-preserved : goal.loop-i-preserved
loop-i-preserved g c =
    let more = c.push_reserved.ensures in
    let so_far = c.loop-i.invariant.number in
    record {
      number = let a = more.len in omega arith;
      room = more.capacity ∙ c.loop-i.invariant.room;
      left = next-left 2 c.loop-i.i c.bytes-bytes.result c.loop-i.bytes c.next_pair.new.self c.loop-i.invariant.left
          c.next_pair.ensures.rest;
      read = read-more little_number 2 c.loop-i.i c.bytes-bytes.result c.loop-i.bytes c.loop-i.pairs.items _
          c.next_pair.result more.items so_far c.loop-i.invariant.read c.loop-i.invariant.left
          c.next_pair.ensures.number;
    }

pub returns-clause-elements : goal.returns-clause-elements
returns-clause-elements g c =
    let inside = c.requires.content.within in
    let so_far = c.loop-i.invariant.number in
    let number : length c.loop-i.pairs.items ≡ c.args.count = omega arith in
    let read = are-pairs c.args.space.now c.args.at (2 * c.args.count) c.bytes-bytes.result
    c.bytes-bytes.ensures.bytes (omega arith) c.loop-i.pairs.items (omega arith) c.loop-i.invariant.read in
    rw (c.from_vec.ensures) read
