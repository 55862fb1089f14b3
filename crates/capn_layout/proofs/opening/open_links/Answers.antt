use Rattle.std.proofs.Common.{ℕ, ap, ◌∙◌, sym, subst, arith}
use Rattle.capn_words.specs.Message.{words_in}
use Rattle.capn_words.specs.declared.pointer.Width.TheVariants.{Link}
use Rattle.capn_words.proofs.shared.Words.{length-words_in}
use Rattle.capn_layout.specs.Layout.{list_to}
use Rattle.capn_layout.specs.Ready.{IsOpened}
use Rattle.capn_layout.proofs.writer.Drafted.{kept-then}
use Rattle.capn_layout.proofs.writer.Opened.{links-few, links-wide, links-fits, links-opened, grown-end}
use Rattle.capn_layout.proofs.opening.open_links.Goals as goal

pub list_pointer-word-requires-clause-room : goal.list_pointer-word-requires-clause-room
list_pointer-word-requires-clause-room g c = let f = c.requires.some.5 in let s = c.requires.short in omega arith

pub list_pointer-word-requires-clause-few : goal.list_pointer-word-requires-clause-few
list_pointer-word-requires-clause-few g c =
    let x = c.requires.some in
    links-few c.args.count x.0 x.1 x.2 x.4

pub put-requires : goal.put-requires
put-requires g c = let f = c.requires.some.5 in let o = c.requires.order in omega arith

pub append_rows-end-requires : goal.append_rows-end-requires
append_rows-end-requires g c =
    let x = c.requires.some in
    let f = links-fits c.args.count x.0 x.1 x.2 x.4 in
    let r = x.5 in
    let k = (c.put.ensures c.args.len c.requires.order (omega arith)).kept.same in (
      x.1,
      x.3,
      links-wide c.args.count x.0 x.1 x.2 x.4,
      omega arith,
      links-few c.args.count x.0 x.1 x.2 x.4,
      omega arith,
    )

pub returns-clause-opened : goal.returns-clause-opened
returns-clause-opened g c v bs h is s =
    let p = words_in c.args.len c.args.out.now in
    let r = words_in c.append_rows-end.result c.append_rows-end.new.out in
    let l = length-words_in c.args.len c.args.out.now in
    let f = c.requires.some.5 in
    subst (λ (j : ℕ). IsOpened v bs c.args.from p r j 0 c.args.count) l
    (links-opened c.args.count v bs h s c.args.from c.list_pointer-word.result p (words_in c.args.len c.put.new.out) r
    (c.list_pointer-word.ensures ∙ ap (λ (j : ℕ). list_to c.args.from j Link c.args.count) (sym l))
    (c.put.ensures c.args.len c.requires.order (omega arith)).words
    (c.append_rows-end.ensures.grown bs is (links-wide c.args.count v bs h s)))

pub returns-clause-kept : goal.returns-clause-kept
returns-clause-kept g c =
    let x = c.requires.some in
    let f = x.5 in
    kept-then c.args.len c.append_rows-end.result c.args.out.now c.put.new.out c.append_rows-end.new.out
    (grown-end 0 c.args.count x.1 c.args.len c.append_rows-end.result c.put.new.out c.append_rows-end.new.out
    (c.append_rows-end.ensures.grown x.1 x.3 (links-wide c.args.count x.0 x.1 x.2 x.4)))
    (c.put.ensures c.args.len c.requires.order (omega arith)).kept c.append_rows-end.ensures.kept

pub returns-clause-reads : goal.returns-clause-reads
returns-clause-reads g c bs is = c.append_rows-end.ensures.reads bs is
