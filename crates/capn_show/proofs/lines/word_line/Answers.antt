use Rattle.std.proofs.Common.{[], ◌∷◌, ◌++◌, ◌*◌, ◌∙◌, List, ℕ, codes, replicate, ap}
use Rattle.std.proofs.lemmas.Result.{on_ok_weaker, IfErr-weaker}
use Rattle.capn_value.specs.Text.{line, hex16}
use Rattle.capn_show.proofs.LineTexts.{word-lined}
use Rattle.capn_show.specs.Outgoing.{outgoing}
use Rattle.capn_show.proofs.shared.Appended.{passed, otherwise, otherwise-broken, both, then-broken, broken-before}
use Rattle.capn_show.proofs.lines.word_line.Goals as goal

pub returns-clause-shown : goal.returns-clause-shown
returns-clause-shown g c =
    let old = outgoing g.W.Write.contents c.args.writer.now c.args.text.now.items in
    let after-indent = outgoing g.W.Write.contents c.indent.new.writer c.indent.new.text.items in
    let new = outgoing g.W.Write.contents c.put.new.writer c.put.new.text.items in
    on_ok_weaker c.put.result (λ k. otherwise old new (replicate (2 * c.args.level) 32 ++ (c.word_bytes.result))
    (line c.args.level (codes "word " ++ hex16 c.args.word)) (ap (λ (l : List ℕ). replicate (2 * c.args.level) 32 ++ l)
    c.word_bytes.ensures ∙ word-lined c.args.level c.args.word) (both old after-indent new
    (replicate (2 * c.args.level) 32) (c.word_bytes.result) c.in_ok-indent.ensures.shown k)) c.put.ensures.shown

pub returns-clause-cut : goal.returns-clause-cut
returns-clause-cut g c =
    let old = outgoing g.W.Write.contents c.args.writer.now c.args.text.now.items in
    let after-indent = outgoing g.W.Write.contents c.indent.new.writer c.indent.new.text.items in
    let new = outgoing g.W.Write.contents c.put.new.writer c.put.new.text.items in
    IfErr-weaker c.put.result _ _ (λ e k. otherwise-broken old new e
    (replicate (2 * c.args.level) 32 ++ (c.word_bytes.result)) (line c.args.level (codes "word " ++ hex16 c.args.word))
    (ap (λ (l : List ℕ). replicate (2 * c.args.level) 32 ++ l) c.word_bytes.ensures ∙ word-lined c.args.level
    c.args.word) (then-broken old after-indent new e (replicate (2 * c.args.level) 32) (c.word_bytes.result)
    c.in_ok-indent.ensures.shown k)) c.put.ensures.cut

pub returns-in_err-indent-clause-cut : goal.returns-in_err-indent-clause-cut
returns-in_err-indent-clause-cut g c =
    let old = outgoing g.W.Write.contents c.args.writer.now c.args.text.now.items in
    let after-indent = outgoing g.W.Write.contents c.indent.new.writer c.indent.new.text.items in
    passed c.from_residual.result c.in_err-indent.field-0.0 _ c.from_residual.ensures.1 (otherwise-broken old
    after-indent _ (replicate (2 * c.args.level) 32 ++ (codes "word " ++ (hex16 c.args.word ++ 10 ∷ [])))
    (line c.args.level (codes "word " ++ hex16 c.args.word)) (word-lined c.args.level c.args.word) (broken-before old
    after-indent _ (replicate (2 * c.args.level) 32) (codes "word " ++ (hex16 c.args.word ++ 10 ∷ []))
    c.in_err-indent.ensures.cut))
