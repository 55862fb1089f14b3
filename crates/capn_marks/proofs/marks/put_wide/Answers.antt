use Rattle.std.proofs.Common.{[], ◌∷◌, ◌∙◌}
use Rattle.std.specs.Fmt.{decimal}
use Rattle.capn_show.specs.Outgoing.{outgoing}
use Rattle.capn_show.proofs.shared.Sequels.{ok-then, err-then}
use Rattle.capn_show.proofs.shared.Appended.{passed, broken-before, otherwise, otherwise-broken}
use Rattle.capn_marks.proofs.marks.put_wide.Goals as goal

pub returns-clause-shown : goal.returns-clause-shown
returns-clause-shown g c =
    ok-then _ _ _ (decimal c.args.byte) (9 ∷ []) (otherwise _ _ _ _
    (c.as_bytes.ensures.value ∙ c.format-digits.ensures.text) c.in_ok-put.ensures.shown) c.put-2.result
    c.put-2.ensures.shown

pub returns-clause-cut : goal.returns-clause-cut
returns-clause-cut g c =
    err-then _ _ _ (decimal c.args.byte) (9 ∷ []) (otherwise _ _ _ _
    (c.as_bytes.ensures.value ∙ c.format-digits.ensures.text) c.in_ok-put.ensures.shown) c.put-2.result
    c.put-2.ensures.cut

pub returns-in_err-put-clause-cut : goal.returns-in_err-put-clause-cut
returns-in_err-put-clause-cut g c =
    let p = (outgoing g.W.Write.contents c.args.writer.now c.args.text.now.items) in
    let q = (outgoing g.W.Write.contents c.put.new.writer c.put.new.text.items) in
    passed c.from_residual.result c.in_err-put.field-0.0 _ c.from_residual.ensures.1
    (broken-before p q _ (decimal c.args.byte) (9 ∷ [])
    (otherwise-broken p q _ _ _ (c.as_bytes.ensures.value ∙ c.format-digits.ensures.text) c.in_err-put.ensures.cut))
