use Rattle.std.proofs.Common.{◌%◌, ◌∙◌, arith}
use Rattle.capn_walk.proofs.shared.Elements.{length-read, bits-more}
use Rattle.capn_walk.proofs.NumbersFromBytes.{next-holds, rest-left, next-is}
use Rattle.capn_walk.proofs.lists.bits_at.Goals as goal
use Rattle.capn_walk.proofs.lists.bits_at.Goals.{then-count-gt0, else-count-gt0}

pub next_byte-requires : goal.next_byte-requires
next_byte-requires g c =
    let inside = c.requires.content.within in
    let number = c.div_ceil.ensures in
    let size = length-read c.args.space.now c.args.at c.div_ceil.result c.bytes-bytes.result
    c.bytes-bytes.ensures.bytes (omega arith) in
    next-holds 1 c.loop-i.i c.bytes-bytes.result c.loop-i.bytes c.loop-i.invariant.left (omega arith)

pub next_byte-requires-then-count-gt0 : goal.next_byte-requires-then-count-gt0
next_byte-requires-then-count-gt0 g c =
    let inside = c.requires.content.within in
    let number = c.div_ceil.ensures in
    let size = length-read c.args.space.now c.args.at c.div_ceil.result c.bytes-bytes.result
    c.bytes-bytes.ensures.bytes (omega arith) in
    next-holds 1 c.loop-i.i c.bytes-bytes.result c.loop-i.bytes c.loop-i.invariant.left (omega arith)

pub loop-i-preserved : goal.loop-i-preserved
loop-i-preserved g c =
    let inside = c.requires.content.within in
    let number = c.div_ceil.ensures in
    let so_far = c.loop-i.invariant.number in
    let more = c.push_bits.ensures in
    record {
      number = let a = more.number in omega arith;
      room = more.capacity ∙ c.loop-i.invariant.room;
      left = rest-left 1 c.loop-i.i c.bytes-bytes.result c.loop-i.bytes c.next_byte.new.self c.loop-i.invariant.left
          c.next_byte.ensures.rest;
      elements = bits-more c.args.space.now c.args.at c.div_ceil.result c.bytes-bytes.result
          c.bytes-bytes.ensures.bytes (omega arith) c.loop-i.i 8 _ c.loop-i.bits.items _
          (next-is c.loop-i.i c.bytes-bytes.result c.loop-i.bytes c.next_byte.result c.loop-i.invariant.left
          c.next_byte.ensures.byte) (omega arith) (omega arith) so_far more.items c.loop-i.invariant.elements;
    }

pub returns-clause-number : goal.returns-clause-number
returns-clause-number g c =
    let inside = c.requires.content.within in
    let number = c.div_ceil.ensures in
    let size = length-read c.args.space.now c.args.at c.div_ceil.result c.bytes-bytes.result
    c.bytes-bytes.ensures.bytes (omega arith) in
    let so_far = c.loop-i.invariant.number in
    rw (c.from_vec.ensures) (elim c.if-count-gt0.branch [
      | then-count-gt0 w ↦ rw (w.bits-is) (let more = w.push_bits-then-count-gt0.ensures.number in omega arith)
      | else-count-gt0 w ↦ rw (w.bits-is) (omega arith)
    ])

pub returns-clause-elements : goal.returns-clause-elements
returns-clause-elements g c =
    let inside = c.requires.content.within in
    let number = c.div_ceil.ensures in
    let size = length-read c.args.space.now c.args.at c.div_ceil.result c.bytes-bytes.result
    c.bytes-bytes.ensures.bytes (omega arith) in
    let so_far = c.loop-i.invariant.number in
    rw (c.from_vec.ensures) (elim c.if-count-gt0.branch [
      | then-count-gt0 w ↦ rw (w.bits-is) (bits-more c.args.space.now c.args.at c.div_ceil.result
          c.bytes-bytes.result c.bytes-bytes.ensures.bytes (omega arith) c.loop-i.i (c.args.count % 8) _
          c.loop-i.bits.items _
          (next-is c.loop-i.i c.bytes-bytes.result c.loop-i.bytes w.next_byte-then-count-gt0.result
          c.loop-i.invariant.left w.next_byte-then-count-gt0.ensures.byte) (omega arith) (omega arith) so_far
          w.push_bits-then-count-gt0.ensures.items c.loop-i.invariant.elements)
      | else-count-gt0 w ↦ rw (w.bits-is) c.loop-i.invariant.elements
    ])
