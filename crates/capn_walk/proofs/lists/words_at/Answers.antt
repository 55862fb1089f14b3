use Rattle.std.proofs.Common.{◌≡◌, ◌*◌, arith, length, ◌∙◌}
use Rattle.byteorder.specs.Endian.{little_number}
use Rattle.capn_walk.proofs.shared.Elements.{length-read, are-words}
use Rattle.capn_walk.proofs.NumbersFromBytes.{next-holds, next-left, read-more}
use Rattle.capn_walk.proofs.lists.words_at.Goals as goal

pub next_word-requires : goal.next_word-requires
next_word-requires g c =
    let inside = c.requires.content.within in
    let size = length-read c.args.space.now c.args.at (8 * c.args.count) c.bytes-bytes.result
    c.bytes-bytes.ensures.bytes (omega arith) in
    next-holds 8 (8 * c.loop-i.i) c.bytes-bytes.result c.loop-i.bytes c.loop-i.invariant.left (omega arith)

pub loop-i-preserved : goal.loop-i-preserved
loop-i-preserved g c =
    let more = c.push_reserved.ensures in
    let so_far = c.loop-i.invariant.number in
    record {
      number = let a = more.len in omega arith;
      room = more.capacity ∙ c.loop-i.invariant.room;
      left = next-left 8 c.loop-i.i c.bytes-bytes.result c.loop-i.bytes c.next_word.new.self c.loop-i.invariant.left
          c.next_word.ensures.rest;
      read = read-more little_number 8 c.loop-i.i c.bytes-bytes.result c.loop-i.bytes c.loop-i.words.items _
          c.next_word.result more.items so_far c.loop-i.invariant.read c.loop-i.invariant.left
          c.next_word.ensures.number;
    }

pub returns-clause-words : goal.returns-clause-words
returns-clause-words g c =
    let inside = c.requires.content.within in
    let so_far = c.loop-i.invariant.number in
    let number : length c.loop-i.words.items ≡ c.args.count = omega arith in
    let read = are-words c.args.space.now c.args.at (8 * c.args.count) c.bytes-bytes.result
    c.bytes-bytes.ensures.bytes (omega arith) c.loop-i.words.items (c.requires.message.each c.args.at.segment)
    (omega arith) c.loop-i.invariant.read in
    rw (c.from_vec.ensures, ← number) read
