use Rattle.std.proofs.Common.{ℕ, ◌+◌, ◌*◌, ap, ◌∙◌, sym, arith}
use Rattle.capn_words.specs.Message.{words_in}
use Rattle.capn_words.specs.declared.pointer.Width.TheVariants.{Rows}
use Rattle.capn_words.proofs.shared.Words.{length-words_in}
use Rattle.capn_layout.specs.Layout.{list_to}
use Rattle.capn_layout.proofs.writer.Drafted.{kept-then, appends-length}
use Rattle.capn_layout.proofs.writer.Opened.{rows-short, rows-wide, rows-fits, rows-opened, grown-end}
use Rattle.capn_layout.proofs.opening.open_rows.Goals as goal

pub list_pointer-word-requires-clause-room : goal.list_pointer-word-requires-clause-room
list_pointer-word-requires-clause-room g c = let f = c.requires.some.5 in let s = c.requires.short in omega arith

pub put-requires : goal.put-requires
put-requires g c = let f = c.requires.some.5 in let o = c.requires.order in omega arith

pub push-first-requires : goal.push-first-requires
push-first-requires g c =
    let x = c.requires.some in
    let f = rows-fits c.args.count x.0 x.1 x.2 x.4 c.kept_words-words.result c.kept_slots-slots.result
    (c.kept_words-words.ensures.kept x.1 x.3) (c.kept_slots-slots.ensures.kept x.1 x.3) in
    let r = x.5 in
    let k = (c.put.ensures c.args.len c.requires.order (omega arith)).kept.same in
    omega arith

pub kept_words-words-requires : goal.kept_words-words-requires
kept_words-words-requires g c = (c.requires.some.1, c.requires.some.3)

pub kept_slots-slots-requires : goal.kept_slots-slots-requires
kept_slots-slots-requires g c = (c.requires.some.1, c.requires.some.3)

pub overflow_mul-size : goal.overflow_mul-size
overflow_mul-size g c =
    let x = c.requires.some in
    let r = rows-short c.args.count x.0 x.1 x.2 x.4 c.kept_words-words.result c.kept_slots-slots.result
    (c.kept_words-words.ensures.kept x.1 x.3) (c.kept_slots-slots.ensures.kept x.1 x.3) in
    let l = r.3 in
    omega arith

pub list_pointer-word-requires-clause-few : goal.list_pointer-word-requires-clause-few
list_pointer-word-requires-clause-few g c =
    let x = c.requires.some in
    let r = rows-short c.args.count x.0 x.1 x.2 x.4 c.kept_words-words.result c.kept_slots-slots.result
    (c.kept_words-words.ensures.kept x.1 x.3) (c.kept_slots-slots.ensures.kept x.1 x.3) in
    r.3

pub tag_word-tag-requires-clause-few : goal.tag_word-tag-requires-clause-few
tag_word-tag-requires-clause-few g c =
    let x = c.requires.some in
    let r = rows-short c.args.count x.0 x.1 x.2 x.4 c.kept_words-words.result c.kept_slots-slots.result
    (c.kept_words-words.ensures.kept x.1 x.3) (c.kept_slots-slots.ensures.kept x.1 x.3) in
    r.0

pub tag_word-tag-requires-clause-words : goal.tag_word-tag-requires-clause-words
tag_word-tag-requires-clause-words g c =
    let x = c.requires.some in
    let r = rows-short c.args.count x.0 x.1 x.2 x.4 c.kept_words-words.result c.kept_slots-slots.result
    (c.kept_words-words.ensures.kept x.1 x.3) (c.kept_slots-slots.ensures.kept x.1 x.3) in
    r.1

pub tag_word-tag-requires-clause-slots : goal.tag_word-tag-requires-clause-slots
tag_word-tag-requires-clause-slots g c =
    let x = c.requires.some in
    let r = rows-short c.args.count x.0 x.1 x.2 x.4 c.kept_words-words.result c.kept_slots-slots.result
    (c.kept_words-words.ensures.kept x.1 x.3) (c.kept_slots-slots.ensures.kept x.1 x.3) in
    r.2

pub append_rows-end-requires : goal.append_rows-end-requires
append_rows-end-requires g c =
    let x = c.requires.some in
    let a = c.kept_words-words.ensures.kept x.1 x.3 in
    let b = c.kept_slots-slots.ensures.kept x.1 x.3 in
    let s = rows-short c.args.count x.0 x.1 x.2 x.4 c.kept_words-words.result c.kept_slots-slots.result a b in
    let n = s.2 in
    let f = rows-fits c.args.count x.0 x.1 x.2 x.4 c.kept_words-words.result c.kept_slots-slots.result a b in
    let r = x.5 in
    let k = (c.put.ensures c.args.len c.requires.order (omega arith)).kept.same in
    let o = c.push-first.ensures.kept.same in
    let l = appends-length c.args.len c.push-first.result _ c.put.new.out c.push-first.new.out c.push-first.ensures in (
      x.1,
      x.3,
      rows-wide c.args.count x.0 x.1 x.2 x.4 c.kept_words-words.result c.kept_slots-slots.result a b,
      s.1,
      omega arith,
      omega arith,
    )

pub returns-clause-opened : goal.returns-clause-opened
returns-clause-opened g c v bs h is s =
    let p = words_in c.args.len c.args.out.now in
    let l = length-words_in c.args.len c.args.out.now in
    let f = c.requires.some.5 in
    let a = c.kept_words-words.result in
    let b = c.kept_slots-slots.result in
    rows-opened c.args.count v bs h s a b
    (c.kept_words-words.ensures.kept bs is) (c.kept_slots-slots.ensures.kept bs is) c.args.from
    c.list_pointer-word.result c.tag_word-tag.result c.push-first.result p (words_in c.args.len c.put.new.out)
    (words_in c.push-first.result c.push-first.new.out) (words_in c.append_rows-end.result c.append_rows-end.new.out)
    (c.list_pointer-word.ensures
    ∙ ap (λ (j : ℕ). list_to c.args.from j Rows (c.args.count * (a + b))) (sym l))
    c.tag_word-tag.ensures (c.put.ensures c.args.len c.requires.order (omega arith)).words c.push-first.ensures.words
    (c.append_rows-end.ensures.grown bs is (rows-wide c.args.count v bs h s a b (c.kept_words-words.ensures.kept bs is)
    (c.kept_slots-slots.ensures.kept bs is))) (sym (length-words_in c.push-first.result c.push-first.new.out))
    (length-words_in c.args.len c.put.new.out ∙ sym l)

pub returns-clause-kept : goal.returns-clause-kept
returns-clause-kept g c =
    let x = c.requires.some in
    let a = c.kept_words-words.result in
    let b = c.kept_slots-slots.result in
    let f = x.5 in
    let l = appends-length c.args.len c.push-first.result _ c.put.new.out c.push-first.new.out c.push-first.ensures in
    kept-then c.push-first.result c.append_rows-end.result c.args.out.now c.push-first.new.out c.append_rows-end.new.out
    (grown-end a b x.1 c.push-first.result c.append_rows-end.result c.push-first.new.out c.append_rows-end.new.out
    (c.append_rows-end.ensures.grown x.1 x.3 (rows-wide c.args.count x.0 x.1 x.2 x.4 a b
    (c.kept_words-words.ensures.kept x.1 x.3) (c.kept_slots-slots.ensures.kept x.1 x.3))))
    (kept-then c.args.len c.push-first.result c.args.out.now c.put.new.out c.push-first.new.out (omega arith)
    (c.put.ensures c.args.len c.requires.order (omega arith)).kept c.push-first.ensures.kept)
    c.append_rows-end.ensures.kept

pub returns-clause-reads : goal.returns-clause-reads
returns-clause-reads g c bs is =
    let a = c.kept_words-words.ensures.reads bs is in
    let b = c.kept_slots-slots.ensures.reads bs is in
    let d = c.append_rows-end.ensures.reads bs is in
    omega arith
