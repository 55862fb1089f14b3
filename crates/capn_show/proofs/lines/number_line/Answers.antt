use Rattle.std.proofs.Common.{[], ◌∷◌, ◌++◌, ◌*◌, replicate}
use Rattle.std.proofs.lemmas.Result.{on_ok_weaker, IfErr-weaker}
use Rattle.std.specs.Fmt.{decimal}
use Rattle.capn_value.specs.Text.{line}
use Rattle.capn_show.proofs.LineTexts.{lined}
use Rattle.capn_show.specs.Outgoing.{outgoing}
use Rattle.capn_show.proofs.shared.Appended.{passed, otherwise, otherwise-broken, both, then-broken, broken-before}
use Rattle.capn_show.proofs.lines.number_line.Goals as goal

pub returns-clause-shown : goal.returns-clause-shown
returns-clause-shown g c =
    let old = outgoing g.W.Write.contents c.args.writer.now c.args.text.now.items in
    let after-indent = outgoing g.W.Write.contents c.indent.new.writer c.indent.new.text.items in
    let new = outgoing g.W.Write.contents c.put_number.new.writer c.put_number.new.text.items in
    on_ok_weaker c.put_number.result (λ k. otherwise old new
    (replicate (2 * c.args.level) 32 ++ (decimal c.args.n ++ 10 ∷ [])) (line c.args.level (decimal c.args.n))
    (lined c.args.level (decimal c.args.n)) (both old after-indent new (replicate (2 * c.args.level) 32)
    (decimal c.args.n ++ 10 ∷ []) c.in_ok-indent.ensures.shown k)) c.put_number.ensures.shown

pub returns-clause-cut : goal.returns-clause-cut
returns-clause-cut g c =
    let old = outgoing g.W.Write.contents c.args.writer.now c.args.text.now.items in
    let after-indent = outgoing g.W.Write.contents c.indent.new.writer c.indent.new.text.items in
    let new = outgoing g.W.Write.contents c.put_number.new.writer c.put_number.new.text.items in
    IfErr-weaker c.put_number.result _ _ (λ e k. otherwise-broken old new e
    (replicate (2 * c.args.level) 32 ++ (decimal c.args.n ++ 10 ∷ [])) (line c.args.level (decimal c.args.n))
    (lined c.args.level (decimal c.args.n)) (then-broken old after-indent new e (replicate (2 * c.args.level) 32)
    (decimal c.args.n ++ 10 ∷ []) c.in_ok-indent.ensures.shown k)) c.put_number.ensures.cut

pub returns-in_err-indent-clause-cut : goal.returns-in_err-indent-clause-cut
returns-in_err-indent-clause-cut g c =
    let old = outgoing g.W.Write.contents c.args.writer.now c.args.text.now.items in
    let after-indent = outgoing g.W.Write.contents c.indent.new.writer c.indent.new.text.items in
    passed c.from_residual.result c.in_err-indent.field-0.0 _ c.from_residual.ensures.1 (otherwise-broken old
    after-indent _ (replicate (2 * c.args.level) 32 ++ (decimal c.args.n ++ 10 ∷ []))
    (line c.args.level (decimal c.args.n)) (lined c.args.level (decimal c.args.n)) (broken-before old after-indent _
    (replicate (2 * c.args.level) 32) (decimal c.args.n ++ 10 ∷ []) c.in_err-indent.ensures.cut))
