use Rattle.std.proofs.Common.{[], ◌∷◌, ◌++◌, codes}
use Rattle.std.proofs.lemmas.Result.{on_ok_weaker, IfErr-weaker}
use Rattle.capn_quoted.specs.Hidden.{hexadecimal}
use Rattle.capn_show.specs.Outgoing.{outgoing}
use Rattle.capn_show.proofs.shared.Appended.{passed, broken-before}
use Rattle.capn_show.proofs.shared.Sequels.{three, cut-second, cut-third}
use Rattle.capn_show.proofs.quoted.put_numbered.Goals as goal

pub returns-clause-shown : goal.returns-clause-shown
returns-clause-shown g c =
    let old = outgoing g.W.Write.contents c.args.writer.now c.args.text.now.items in
    let begun = outgoing g.W.Write.contents c.put.new.writer c.put.new.text.items in
    let full = outgoing g.W.Write.contents c.put_hexadecimal.new.writer c.put_hexadecimal.new.text.items in
    let new = outgoing g.W.Write.contents c.put-2.new.writer c.put-2.new.text.items in
    on_ok_weaker c.put-2.result (λ k. three old begun (codes "\\u{") (hexadecimal c.args.c) (125 ∷ []) full new
    c.in_ok-put.ensures.shown c.in_ok-put_hexadecimal.ensures.shown k) c.put-2.ensures.shown

pub returns-clause-cut : goal.returns-clause-cut
returns-clause-cut g c =
    let old = outgoing g.W.Write.contents c.args.writer.now c.args.text.now.items in
    let begun = outgoing g.W.Write.contents c.put.new.writer c.put.new.text.items in
    let full = outgoing g.W.Write.contents c.put_hexadecimal.new.writer c.put_hexadecimal.new.text.items in
    let new = outgoing g.W.Write.contents c.put-2.new.writer c.put-2.new.text.items in
    IfErr-weaker c.put-2.result _ _ (λ e k. cut-third old begun (codes "\\u{") (hexadecimal c.args.c) (125 ∷ []) full
    new e c.in_ok-put.ensures.shown c.in_ok-put_hexadecimal.ensures.shown k) c.put-2.ensures.cut

pub returns-in_err-put-clause-cut : goal.returns-in_err-put-clause-cut
returns-in_err-put-clause-cut g c =
    let old = outgoing g.W.Write.contents c.args.writer.now c.args.text.now.items in
    let begun = outgoing g.W.Write.contents c.put.new.writer c.put.new.text.items in
    passed c.from_residual.result c.in_err-put.field-0.0 _ c.from_residual.ensures.1 (broken-before old begun _
    (codes "\\u{") (hexadecimal c.args.c ++ 125 ∷ []) c.in_err-put.ensures.cut)

pub returns-in_err-put_hexadecimal-clause-cut : goal.returns-in_err-put_hexadecimal-clause-cut
returns-in_err-put_hexadecimal-clause-cut g c =
    let old = outgoing g.W.Write.contents c.args.writer.now c.args.text.now.items in
    let begun = outgoing g.W.Write.contents c.put.new.writer c.put.new.text.items in
    let full = outgoing g.W.Write.contents c.put_hexadecimal.new.writer c.put_hexadecimal.new.text.items in
    passed c.from_residual-in_err-put_hexadecimal.result c.in_err-put_hexadecimal.field-0.0 _
    c.from_residual-in_err-put_hexadecimal.ensures.1 (cut-second old begun (codes "\\u{") (hexadecimal c.args.c)
    (125 ∷ []) full _ c.in_ok-put.ensures.shown c.in_err-put_hexadecimal.ensures.cut)
