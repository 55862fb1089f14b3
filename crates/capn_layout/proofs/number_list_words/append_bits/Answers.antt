use Rattle.std.proofs.Common.{◌*◌, ◌/◌, ◌%◌, ◌^◌, arith}
use Rattle.capn_words.specs.Message.{segment_at}
use Rattle.capn_walk.specs.ValueAt.{words_from}
use Rattle.capn_layout.proofs.shared.Copied.{whole-bytes, copied, copied-end, length-copied}
use Rattle.capn_layout.proofs.shared.FirstBits.{bits-appended, words-appended, shifted-one}
use Rattle.capn_layout.proofs.writer.Drafted.{kept-then, appends-length}
use Rattle.capn_words.specs.Message.{words_in}
use Rattle.capn_layout.proofs.number_list_words.append_bits.Goals as goal

pub extend-end-requires-clause-whole : goal.extend-end-requires-clause-whole
extend-end-requires-clause-whole g c =
    let h = c.requires.content.within in
    whole-bytes c.args.space.now c.args.start.segment c.args.start.word (c.args.bits / 64)
    c.bytes.result (omega arith) c.bytes.ensures.bytes

pub extend-end-requires-clause-room : goal.extend-end-requires-clause-room
extend-end-requires-clause-room g c =
    let h = c.requires.content.within in
    let r = c.requires.room in
    let l = length-copied c.args.space.now c.args.start.segment c.args.start.word (c.args.bits / 64)
    c.bytes.result (omega arith) c.bytes.ensures.bytes in
    omega arith

pub returns-then-rest-eq0-clause-appends : goal.returns-then-rest-eq0-clause-appends
returns-then-rest-eq0-clause-appends g c =
    let m = c.args.space.now in
    let s = c.args.start.segment in
    let w = c.args.start.word in
    let h = c.requires.content.within in
    let a = copied m s w (c.args.bits / 64) c.args.len c.extend-end.result c.args.out.now c.extend-end.new.out
    c.bytes.result c.requires.message (omega arith) c.bytes.ensures.bytes c.extend-end.ensures in
    record {
      words = words-appended (words_from m s w) c.args.bits (words_in c.args.len c.args.out.now)
          (words_in c.extend-end.result c.extend-end.new.out) c.if-rest-eq0.true a.words;
      kept = a.kept;
    }

pub push-requires : goal.push-requires
push-requires g c =
    let m = c.args.space.now in
    let s = c.args.start.segment in
    let w = c.args.start.word in
    let h = c.requires.content.within in
    let e = copied-end m s w (c.args.bits / 64) c.args.len c.extend-end.result c.args.out.now c.extend-end.new.out
    c.bytes.result c.requires.message (omega arith) c.bytes.ensures.bytes c.extend-end.ensures in
    let k = c.extend-end.ensures.kept.same in
    let r = c.requires.room in
    let n = c.if-rest-eq0.false in
    omega arith

pub returns-clause-appends : goal.returns-clause-appends
returns-clause-appends g c =
    let m = c.args.space.now in
    let s = c.args.start.segment in
    let w = c.args.start.word in
    let h = c.requires.content.within in
    let a = copied m s w (c.args.bits / 64) c.args.len c.extend-end.result c.args.out.now c.extend-end.new.out
    c.bytes.result c.requires.message (omega arith) c.bytes.ensures.bytes c.extend-end.ensures in
    let b = c.push.ensures in
    let l = appends-length c.extend-end.result c.push.result _ c.extend-end.new.out c.push.new.out b in
    record {
      words = bits-appended (segment_at m s) w c.args.bits c.word.result (1 * 2 ^ (c.args.bits % 64) % 2 ^ 64)
          (words_in c.args.len c.args.out.now) (words_in c.extend-end.result c.extend-end.new.out)
          (words_in c.push.result c.push.new.out) c.if-rest-eq0.false a.words c.word.ensures.word
          (shifted-one (c.args.bits % 64) (omega arith)) b.words;
      kept = kept-then c.extend-end.result c.push.result c.args.out.now c.extend-end.new.out c.push.new.out (omega
          arith) a.kept b.kept;
    }
