use Rattle.std.proofs.Common.{ℕ, ap, ◌∙◌, sym, subst, arith}
use Rattle.capn_words.specs.Message.{words_in}
use Rattle.capn_words.proofs.shared.Words.{length-words_in}
use Rattle.capn_layout.specs.Layout.{struct_to}
use Rattle.capn_layout.specs.Ready.{IsOpened}
use Rattle.capn_layout.proofs.writer.Drafted.{kept-then}
use Rattle.capn_layout.proofs.writer.Opened.{struct-short, struct-wide, struct-fits, struct-opened, grown-end}
use Rattle.capn_layout.proofs.opening.open_struct.Goals as goal

pub kept_words-words-requires : goal.kept_words-words-requires
kept_words-words-requires g c = (c.requires.some.1, c.requires.some.3)

pub kept_slots-slots-requires : goal.kept_slots-slots-requires
kept_slots-slots-requires g c = (c.requires.some.1, c.requires.some.3)

pub struct_pointer-word-requires-clause-room : goal.struct_pointer-word-requires-clause-room
struct_pointer-word-requires-clause-room g c = let f = c.requires.some.5 in let s = c.requires.short in omega arith

pub struct_pointer-word-requires-clause-words : goal.struct_pointer-word-requires-clause-words
struct_pointer-word-requires-clause-words g c =
    let x = c.requires.some in
    (struct-short x.0 x.1 x.2 x.4 c.kept_words-words.result c.kept_slots-slots.result
    (c.kept_words-words.ensures.kept x.1 x.3) (c.kept_slots-slots.ensures.kept x.1 x.3)).0

pub struct_pointer-word-requires-clause-slots : goal.struct_pointer-word-requires-clause-slots
struct_pointer-word-requires-clause-slots g c =
    let x = c.requires.some in
    (struct-short x.0 x.1 x.2 x.4 c.kept_words-words.result c.kept_slots-slots.result
    (c.kept_words-words.ensures.kept x.1 x.3) (c.kept_slots-slots.ensures.kept x.1 x.3)).1

pub put-requires : goal.put-requires
put-requires g c = let f = c.requires.some.5 in let o = c.requires.order in omega arith

pub append_rows-end-requires : goal.append_rows-end-requires
append_rows-end-requires g c =
    let x = c.requires.some in
    let a = c.kept_words-words.ensures.kept x.1 x.3 in
    let b = c.kept_slots-slots.ensures.kept x.1 x.3 in
    let s = struct-short x.0 x.1 x.2 x.4 c.kept_words-words.result c.kept_slots-slots.result a b in
    let n = s.1 in
    let f = struct-fits x.0 x.1 x.2 x.4 c.kept_words-words.result c.kept_slots-slots.result a b in
    let r = x.5 in
    let k = (c.put.ensures c.args.len c.requires.order (omega arith)).kept.same in (
      x.1,
      x.3,
      struct-wide x.0 x.1 x.2 x.4 c.kept_words-words.result c.kept_slots-slots.result a b,
      s.0,
      omega arith,
      omega arith,
    )

pub returns-clause-opened : goal.returns-clause-opened
returns-clause-opened g c v bs h is s =
    let p = words_in c.args.len c.args.out.now in
    let r = words_in c.append_rows-end.result c.append_rows-end.new.out in
    let l = length-words_in c.args.len c.args.out.now in
    let f = c.requires.some.5 in
    let a = c.kept_words-words.result in
    let b = c.kept_slots-slots.result in
    subst (λ (j : ℕ). IsOpened v bs c.args.from p r j a b) l
    (struct-opened v bs h s a b (c.kept_words-words.ensures.kept bs is)
    (c.kept_slots-slots.ensures.kept bs is) c.args.from c.struct_pointer-word.result p
    (words_in c.args.len c.put.new.out) r
    (c.struct_pointer-word.ensures ∙ ap (λ (j : ℕ). struct_to c.args.from j a b) (sym l))
    (c.put.ensures c.args.len c.requires.order (omega arith)).words
    (c.append_rows-end.ensures.grown bs is (struct-wide v bs h s a b
    (c.kept_words-words.ensures.kept bs is) (c.kept_slots-slots.ensures.kept bs is))))

pub returns-clause-kept : goal.returns-clause-kept
returns-clause-kept g c =
    let x = c.requires.some in
    let a = c.kept_words-words.result in
    let b = c.kept_slots-slots.result in
    let f = x.5 in
    kept-then c.args.len c.append_rows-end.result c.args.out.now c.put.new.out c.append_rows-end.new.out
    (grown-end a b x.1 c.args.len c.append_rows-end.result c.put.new.out c.append_rows-end.new.out
    (c.append_rows-end.ensures.grown x.1 x.3 (struct-wide x.0 x.1 x.2 x.4 a b
    (c.kept_words-words.ensures.kept x.1 x.3) (c.kept_slots-slots.ensures.kept x.1 x.3))))
    (c.put.ensures c.args.len c.requires.order (omega arith)).kept c.append_rows-end.ensures.kept

pub returns-clause-reads : goal.returns-clause-reads
returns-clause-reads g c bs is =
    let a = c.kept_words-words.ensures.reads bs is in
    let b = c.kept_slots-slots.ensures.reads bs is in
    let d = c.append_rows-end.ensures.reads bs is in
    omega arith
