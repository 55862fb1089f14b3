use Rattle.std.proofs.Common.{[], ◌∷◌, ◌++◌, ◌*◌, codes, replicate}
use Rattle.std.proofs.lemmas.Result.{on_ok_weaker, IfErr-weaker}
use Rattle.std.specs.Fmt.{decimal}
use Rattle.capn_value.specs.Text.{body_line}
use Rattle.capn_show.proofs.LineTexts.{body-lined}
use Rattle.capn_show.specs.Outgoing.{outgoing}
use Rattle.capn_show.proofs.shared.Appended.{passed, otherwise, otherwise-broken, both, then-broken, broken-before}
use Rattle.capn_show.proofs.lines.body_line.Goals as goal

pub returns-clause-shown : goal.returns-clause-shown
returns-clause-shown g c =
    let old = outgoing g.W.Write.contents c.args.writer.now c.args.text.now.items in
    let after-indent = outgoing g.W.Write.contents c.indent.new.writer c.indent.new.text.items in
    let after-put = outgoing g.W.Write.contents c.put.new.writer c.put.new.text.items in
    let after-put_number = outgoing g.W.Write.contents c.put_number.new.writer c.put_number.new.text.items in
    let new = outgoing g.W.Write.contents c.put_number-2.new.writer c.put_number-2.new.text.items in
    on_ok_weaker c.put_number-2.result (λ k. otherwise old new (replicate (2 * c.args.level) 32
    ++ (codes "struct " ++ (decimal c.args.words ++ 32 ∷ [] ++ (decimal c.args.slots ++ 10 ∷ []))))
    (body_line c.args.level c.args.words c.args.slots) (body-lined c.args.level c.args.words c.args.slots) (both old
    after-indent new (replicate (2 * c.args.level) 32) (codes "struct "
    ++ (decimal c.args.words ++ 32 ∷ [] ++ (decimal c.args.slots ++ 10 ∷ []))) c.in_ok-indent.ensures.shown (both
    after-indent after-put new (codes "struct ") (decimal c.args.words ++ 32 ∷ [] ++ (decimal c.args.slots ++ 10 ∷ []))
    c.in_ok-put.ensures.shown (both after-put after-put_number new (decimal c.args.words ++ 32 ∷ [])
    (decimal c.args.slots ++ 10 ∷ []) c.in_ok-put_number.ensures.shown k)))) c.put_number-2.ensures.shown

pub returns-clause-cut : goal.returns-clause-cut
returns-clause-cut g c =
    let old = outgoing g.W.Write.contents c.args.writer.now c.args.text.now.items in
    let after-indent = outgoing g.W.Write.contents c.indent.new.writer c.indent.new.text.items in
    let after-put = outgoing g.W.Write.contents c.put.new.writer c.put.new.text.items in
    let after-put_number = outgoing g.W.Write.contents c.put_number.new.writer c.put_number.new.text.items in
    let new = outgoing g.W.Write.contents c.put_number-2.new.writer c.put_number-2.new.text.items in
    IfErr-weaker c.put_number-2.result _ _ (λ e k. otherwise-broken old new e (replicate (2 * c.args.level) 32
    ++ (codes "struct " ++ (decimal c.args.words ++ 32 ∷ [] ++ (decimal c.args.slots ++ 10 ∷ []))))
    (body_line c.args.level c.args.words c.args.slots) (body-lined c.args.level c.args.words c.args.slots) (then-broken
    old after-indent new e (replicate (2 * c.args.level) 32) (codes "struct "
    ++ (decimal c.args.words ++ 32 ∷ [] ++ (decimal c.args.slots ++ 10 ∷ []))) c.in_ok-indent.ensures.shown (then-broken
    after-indent after-put new e (codes "struct ") (decimal c.args.words ++ 32 ∷ []
    ++ (decimal c.args.slots ++ 10 ∷ [])) c.in_ok-put.ensures.shown (then-broken after-put after-put_number new e
    (decimal c.args.words ++ 32 ∷ []) (decimal c.args.slots ++ 10 ∷ []) c.in_ok-put_number.ensures.shown k))))
    c.put_number-2.ensures.cut

pub returns-in_err-indent-clause-cut : goal.returns-in_err-indent-clause-cut
returns-in_err-indent-clause-cut g c =
    let old = outgoing g.W.Write.contents c.args.writer.now c.args.text.now.items in
    let after-indent = outgoing g.W.Write.contents c.indent.new.writer c.indent.new.text.items in
    passed c.from_residual.result c.in_err-indent.field-0.0 _ c.from_residual.ensures.1 (otherwise-broken old
    after-indent _ (replicate (2 * c.args.level) 32
    ++ (codes "struct " ++ (decimal c.args.words ++ 32 ∷ [] ++ (decimal c.args.slots ++ 10 ∷ []))))
    (body_line c.args.level c.args.words c.args.slots) (body-lined c.args.level c.args.words c.args.slots)
    (broken-before old after-indent _ (replicate (2 * c.args.level) 32) (codes "struct "
    ++ (decimal c.args.words ++ 32 ∷ [] ++ (decimal c.args.slots ++ 10 ∷ []))) c.in_err-indent.ensures.cut))

pub returns-in_err-put-clause-cut : goal.returns-in_err-put-clause-cut
returns-in_err-put-clause-cut g c =
    let old = outgoing g.W.Write.contents c.args.writer.now c.args.text.now.items in
    let after-indent = outgoing g.W.Write.contents c.indent.new.writer c.indent.new.text.items in
    let after-put = outgoing g.W.Write.contents c.put.new.writer c.put.new.text.items in
    passed c.from_residual-in_err-put.result c.in_err-put.field-0.0 _ c.from_residual-in_err-put.ensures.1
    (otherwise-broken old after-put _ (replicate (2 * c.args.level) 32
    ++ (codes "struct " ++ (decimal c.args.words ++ 32 ∷ [] ++ (decimal c.args.slots ++ 10 ∷ []))))
    (body_line c.args.level c.args.words c.args.slots) (body-lined c.args.level c.args.words c.args.slots) (then-broken
    old after-indent after-put _ (replicate (2 * c.args.level) 32) (codes "struct "
    ++ (decimal c.args.words ++ 32 ∷ [] ++ (decimal c.args.slots ++ 10 ∷ []))) c.in_ok-indent.ensures.shown
    (broken-before after-indent after-put _ (codes "struct ") (decimal c.args.words ++ 32 ∷ []
    ++ (decimal c.args.slots ++ 10 ∷ [])) c.in_err-put.ensures.cut)))

pub returns-in_err-put_number-clause-cut : goal.returns-in_err-put_number-clause-cut
returns-in_err-put_number-clause-cut g c =
    let old = outgoing g.W.Write.contents c.args.writer.now c.args.text.now.items in
    let after-indent = outgoing g.W.Write.contents c.indent.new.writer c.indent.new.text.items in
    let after-put = outgoing g.W.Write.contents c.put.new.writer c.put.new.text.items in
    let after-put_number = outgoing g.W.Write.contents c.put_number.new.writer c.put_number.new.text.items in
    passed c.from_residual-in_err-put_number.result c.in_err-put_number.field-0.0 _
    c.from_residual-in_err-put_number.ensures.1 (otherwise-broken old after-put_number _ (replicate (2 * c.args.level)
    32 ++ (codes "struct " ++ (decimal c.args.words ++ 32 ∷ [] ++ (decimal c.args.slots ++ 10 ∷ []))))
    (body_line c.args.level c.args.words c.args.slots) (body-lined c.args.level c.args.words c.args.slots) (then-broken
    old after-indent after-put_number _ (replicate (2 * c.args.level) 32) (codes "struct "
    ++ (decimal c.args.words ++ 32 ∷ [] ++ (decimal c.args.slots ++ 10 ∷ []))) c.in_ok-indent.ensures.shown (then-broken
    after-indent after-put after-put_number _ (codes "struct ") (decimal c.args.words ++ 32 ∷ []
    ++ (decimal c.args.slots ++ 10 ∷ [])) c.in_ok-put.ensures.shown (broken-before after-put after-put_number _
    (decimal c.args.words ++ 32 ∷ []) (decimal c.args.slots ++ 10 ∷ []) c.in_err-put_number.ensures.cut))))
