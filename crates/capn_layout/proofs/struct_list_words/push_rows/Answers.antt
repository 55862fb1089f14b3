use Rattle.std.proofs.Common.{◌≡◌, ℕ, ◌+◌, ◌*◌, ◌++◌, take, ap, sym, refl, ◌∙◌, arith, append_assoc}
use Rattle.capn_words.specs.Message.{words_in}
use Rattle.capn_walk.specs.ValueAt.{words_from}
use Rattle.capn_walk.proofs.shared.RowWalks.{row-inside}
use Rattle.capn_target.proofs.shared.Segments.{segment-room}
use Rattle.capn_layout.proofs.shared.Copied.{whole-bytes, length-copied, copied, length-parts, row-room}
use Rattle.capn_layout.proofs.shared.EachRow.{cells-begin, cells-more, cells-end, cells-piece}
use Rattle.capn_layout.proofs.writer.Drafted.{kept-then, appends-length}
use Rattle.capn_layout.proofs.shared.Counted.{times-le}
use Rattle.capn_layout.proofs.struct_list_words.push_rows.Goals as goal

pub extend-requires-clause-whole : goal.extend-requires-clause-whole
extend-requires-clause-whole g c =
    whole-bytes c.args.space.now c.args.start.segment c.args.start.word
    (c.args.count * (c.args.words + c.args.slots)) c.bytes.result c.requires.content.within c.bytes.ensures.bytes

pub extend-requires-clause-room : goal.extend-requires-clause-room
extend-requires-clause-room g c =
    let l = length-copied c.args.space.now c.args.start.segment c.args.start.word
    (c.args.count * (c.args.words + c.args.slots)) c.bytes.result c.requires.content.within c.bytes.ensures.bytes in
    let e = ap (λ (k : ℕ). c.args.count * k) c.if-kept-below.true in
    let r = c.requires.room in
    omega arith

pub returns-then-kept-below-clause-appends : goal.returns-then-kept-below-clause-appends
returns-then-kept-below-clause-appends g c =
    let m = c.args.space.now in
    let s = c.args.start.segment in
    let w = c.args.start.word in
    let step = c.args.words + c.args.slots in
    let all = c.if-kept-below.true in
    let a = copied m s w (c.args.count * step) c.args.len c.extend.result c.args.out.now c.extend.new.out
    c.bytes.result c.requires.message c.requires.content.within c.bytes.ensures.bytes c.extend.ensures in
    record {
      words = cells-piece m s w step c.args.words c.args.kept c.args.below c.args.count
          (words_in c.args.len c.args.out.now) (words_in c.extend.result c.extend.new.out)
          (λ lt. let a = (c.requires.part lt).0 in let b = (c.requires.part lt).1 in (omega arith, omega arith))
          a.words;
      kept = a.kept;
    }

pub loop-row-init : goal.loop-row-init
loop-row-init g c = record {
  next = omega arith;
  ends = omega arith;
  reads = omega arith;
  rest = cells-begin c.args.space.now c.args.start.segment c.args.start.word
      (c.args.words + c.args.slots) c.args.words c.args.kept c.args.below c.args.count
      (words_in c.args.len c.args.out.now);
  same = record { same = refl; rest = refl };
}

pub push_parts-end-requires-clause-content : goal.push_parts-end-requires-clause-content
push_parts-end-requires-clause-content g c =
    let room = row-inside c.args.start.word c.args.count c.loop-row.row (c.args.words + c.args.slots) c.loop-row.next _
    c.loop-row-test.true c.loop-row.invariant.next c.requires.content.within in
    let lt = c.loop-row-test.true in
    let b = (c.requires.part (omega arith)).1 in
    record { exists = c.requires.content.exists; within = omega arith }

pub push_parts-end-requires-clause-part : goal.push_parts-end-requires-clause-part
push_parts-end-requires-clause-part g c =
    let lt = c.loop-row-test.true in
    (c.requires.part (omega arith)).0

pub push_parts-end-requires-clause-room : goal.push_parts-end-requires-clause-room
push_parts-end-requires-clause-room g c =
    let k = c.args.kept + c.args.below in
    let l = row-room c.args.count c.loop-row.row k c.loop-row-test.true in
    let e = c.loop-row.invariant.ends in
    let r = c.requires.room in
    let s = c.loop-row.invariant.same.same in
    omega arith

pub overflow_add-next : goal.overflow_add-next
overflow_add-next g c =
    let m = c.args.space.now in
    let room = row-inside c.args.start.word c.args.count c.loop-row.row (c.args.words + c.args.slots) c.loop-row.next _
    c.loop-row-test.true c.loop-row.invariant.next c.requires.content.within in
    let all = segment-room m c.args.start.segment c.requires.message c.requires.content.exists in
    omega arith

pub loop-row-preserved : goal.loop-row-preserved
loop-row-preserved g c =
    let m = c.args.space.now in
    let s = c.args.start.segment in
    let n = c.loop-row.invariant.next in
    let step = c.args.words + c.args.slots in
    let a = c.push_parts-end.ensures.appends in
    let own = take c.args.kept (words_from m s c.loop-row.next) in
    let slots = take c.args.below (words_from m s (c.loop-row.next + c.args.words)) in
    let l = appends-length c.loop-row.end c.push_parts-end.result (own ++ slots) c.loop-row.out
    c.push_parts-end.new.out a in
    let lt = c.loop-row-test.true in
    let room = row-inside c.args.start.word c.args.count c.loop-row.row step c.loop-row.next _ lt
    c.loop-row.invariant.next c.requires.content.within in
    let part = c.requires.part (omega arith) in
    let x = part.0 in
    let y = part.1 in
    let both = length-parts m s c.loop-row.next (c.loop-row.next + c.args.words) c.args.kept c.args.below (omega arith)
    (omega arith) in
    let e = c.loop-row.invariant.ends in
    record {
      next = let d : (c.loop-row.row + 1) * step ≡ c.loop-row.row * step + step = omega arith in omega arith;
      ends =
          let k = c.args.kept + c.args.below in
          let d : (c.loop-row.row + 1) * k ≡ c.loop-row.row * k + k = omega arith in
          omega arith;
      reads =
          let d : (c.loop-row.row + 1) * step ≡ c.loop-row.row * step + step = omega arith in
          let r = c.loop-row.invariant.reads in
          let k = c.push_parts-end.ensures.reads in
          let n = c.if-kept-below.false in
          omega arith;
      rest =
          cells-more m s c.loop-row.next step c.args.words c.args.kept c.args.below c.args.count
          c.loop-row.row (words_in c.loop-row.end c.loop-row.out)
          (words_in c.push_parts-end.result c.push_parts-end.new.out) lt
          (a.words ∙ sym (append_assoc (words_in c.loop-row.end c.loop-row.out) own slots))
          ∙ c.loop-row.invariant.rest;
      same = kept-then c.loop-row.end c.push_parts-end.result c.args.out.now c.loop-row.out c.push_parts-end.new.out
          (omega arith) c.loop-row.invariant.same a.kept;
    }

pub returns-clause-appends : goal.returns-clause-appends
returns-clause-appends g c = record {
  words = cells-end c.args.space.now c.args.start.segment c.loop-row.next
      (c.args.words + c.args.slots)
      c.args.words c.args.kept c.args.below c.args.count c.loop-row.row (words_in c.loop-row.end c.loop-row.out) _
      c.loop-row-test.false c.loop-row.invariant.rest;
  kept = c.loop-row.invariant.same;
}

pub returns-clause-reads : goal.returns-clause-reads
returns-clause-reads g c =
    let k = times-le c.loop-row.row c.args.count (c.args.words + c.args.slots) (omega arith) in
    let r = c.loop-row.invariant.reads in
    omega arith
