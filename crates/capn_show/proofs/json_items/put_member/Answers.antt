use Rattle.std.proofs.Common.{[], ◌∷◌, ◌++◌}
use Rattle.std.specs.Fmt.{decimal}
use Rattle.std.proofs.lemmas.Result.{on_ok_weaker, IfErr-weaker}
use Rattle.capn_show.specs.Outgoing.{outgoing}
use Rattle.capn_show.proofs.shared.Appended.{passed, both, then-broken, broken-before}
use Rattle.capn_show.proofs.json_items.put_member.Goals as goal

pub returns-clause-shown : goal.returns-clause-shown
returns-clause-shown g c =
    let old = outgoing g.W.Write.contents c.args.writer.now c.args.text.now.items in
    let begun = outgoing g.W.Write.contents c.put.new.writer c.put.new.text.items in
    let new = outgoing g.W.Write.contents c.put_number.new.writer c.put_number.new.text.items in
    on_ok_weaker c.put_number.result (both old begun new c.args.head.now (decimal c.args.n ++ 125 ∷ [])
    c.in_ok-put.ensures.shown) c.put_number.ensures.shown

pub returns-clause-cut : goal.returns-clause-cut
returns-clause-cut g c =
    let old = outgoing g.W.Write.contents c.args.writer.now c.args.text.now.items in
    let begun = outgoing g.W.Write.contents c.put.new.writer c.put.new.text.items in
    let new = outgoing g.W.Write.contents c.put_number.new.writer c.put_number.new.text.items in
    IfErr-weaker c.put_number.result _ _ (λ e. then-broken old begun new e c.args.head.now
    (decimal c.args.n ++ 125 ∷ []) c.in_ok-put.ensures.shown) c.put_number.ensures.cut

pub returns-in_err-put-clause-cut : goal.returns-in_err-put-clause-cut
returns-in_err-put-clause-cut g c =
    let old = outgoing g.W.Write.contents c.args.writer.now c.args.text.now.items in
    let begun = outgoing g.W.Write.contents c.put.new.writer c.put.new.text.items in
    passed c.from_residual.result c.in_err-put.field-0.0 _ c.from_residual.ensures.1
    (broken-before old begun _ c.args.head.now (decimal c.args.n ++ 125 ∷ []) c.in_err-put.ensures.cut)
