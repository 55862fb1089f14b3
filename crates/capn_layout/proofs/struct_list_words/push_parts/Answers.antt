use Rattle.std.proofs.Common.{◌+◌, take, ◌∙◌, arith, append_assoc}
use Rattle.capn_words.specs.Message.{words_in}
use Rattle.capn_walk.specs.ValueAt.{words_from}
use Rattle.capn_layout.proofs.shared.Copied.{whole-bytes, copied, copied-end, length-copied}
use Rattle.capn_layout.proofs.shared.EachRow.{copy-parts}
use Rattle.capn_layout.proofs.writer.Drafted.{appends-then}
use Rattle.capn_layout.proofs.struct_list_words.push_parts.Goals as goal

pub extend-requires-clause-whole : goal.extend-requires-clause-whole
extend-requires-clause-whole g c =
    let e = c.if-words-size.true in
    let h = c.requires.content.within in
    whole-bytes c.args.space.now c.args.start.segment c.args.start.word
    (c.args.words + c.args.slots) c.bytes.result (omega arith) c.bytes.ensures.bytes

pub extend-requires-clause-room : goal.extend-requires-clause-room
extend-requires-clause-room g c =
    let e = c.if-words-size.true in
    let h = c.requires.content.within in
    let r = c.requires.room in
    let l = length-copied c.args.space.now c.args.start.segment c.args.start.word
    (c.args.words + c.args.slots) c.bytes.result (omega arith) c.bytes.ensures.bytes in
    omega arith

pub returns-then-words-size-clause-appends : goal.returns-then-words-size-clause-appends
returns-then-words-size-clause-appends g c =
    let m = c.args.space.now in
    let s = c.args.start.segment in
    let w = c.args.start.word in
    let e = c.if-words-size.true in
    let h = c.requires.content.within in
    let a = copied m s w (c.args.words + c.args.slots) c.args.len c.extend.result c.args.out.now c.extend.new.out
    c.bytes.result c.requires.message (omega arith) c.bytes.ensures.bytes c.extend.ensures in
    let p = words_in c.args.len c.args.out.now in
    record {
      words =
          copy-parts m s w c.args.words c.args.slots c.args.size p (words_in c.extend.result c.extend.new.out) e a.words
          ∙ append_assoc p (take c.args.words (words_from m s w))
          (take c.args.slots (words_from m s (w + c.args.size)));
      kept = a.kept;
    }

pub extend-end-requires-clause-whole : goal.extend-end-requires-clause-whole
extend-end-requires-clause-whole g c =
    let h = c.requires.content.within in
    let p = c.requires.part in
    whole-bytes c.args.space.now c.args.start.segment c.args.start.word c.args.words
    c.bytes-2.result (omega arith) c.bytes-2.ensures.bytes

pub extend-end-requires-clause-room : goal.extend-end-requires-clause-room
extend-end-requires-clause-room g c =
    let h = c.requires.content.within in
    let p = c.requires.part in
    let r = c.requires.room in
    let l = length-copied c.args.space.now c.args.start.segment c.args.start.word c.args.words
    c.bytes-2.result (omega arith) c.bytes-2.ensures.bytes in
    omega arith

pub extend-requires-2-clause-whole : goal.extend-requires-2-clause-whole
extend-requires-2-clause-whole g c =
    let h = c.requires.content.within in
    whole-bytes c.args.space.now c.args.start.segment (c.args.start.word + c.args.size) c.args.slots
    c.bytes-3.result (omega arith) c.bytes-3.ensures.bytes

pub extend-requires-2-clause-room : goal.extend-requires-2-clause-room
extend-requires-2-clause-room g c =
    let m = c.args.space.now in
    let s = c.args.start.segment in
    let w = c.args.start.word in
    let h = c.requires.content.within in
    let p = c.requires.part in
    let r = c.requires.room in
    let e = copied-end m s w c.args.words c.args.len c.extend-end.result c.args.out.now c.extend-end.new.out
    c.bytes-2.result c.requires.message (omega arith) c.bytes-2.ensures.bytes c.extend-end.ensures in
    let k = c.extend-end.ensures.kept.same in
    let l = length-copied m s (w + c.args.size) c.args.slots c.bytes-3.result (omega arith) c.bytes-3.ensures.bytes in
    omega arith

pub returns-clause-appends : goal.returns-clause-appends
returns-clause-appends g c =
    let m = c.args.space.now in
    let s = c.args.start.segment in
    let w = c.args.start.word in
    let h = c.requires.content.within in
    let p = c.requires.part in
    let a = copied m s w c.args.words c.args.len c.extend-end.result c.args.out.now c.extend-end.new.out
    c.bytes-2.result c.requires.message (omega arith) c.bytes-2.ensures.bytes c.extend-end.ensures in
    let b = copied m s (w + c.args.size) c.args.slots c.extend-end.result c.extend-2.result c.extend-end.new.out
    c.extend-2.new.out c.bytes-3.result c.requires.message (omega arith) c.bytes-3.ensures.bytes c.extend-2.ensures in
    appends-then c.args.len c.extend-end.result c.extend-2.result (take c.args.words (words_from m s w))
    (take c.args.slots (words_from m s (w + c.args.size))) c.args.out.now c.extend-end.new.out c.extend-2.new.out a b
