use Rattle.std.proofs.Common.{[], ◌∷◌, ◌++◌, ◌*◌, ◌∙◌, List, ℕ, replicate, ap}
use Rattle.std.proofs.lemmas.Result.{on_ok_weaker, IfErr-weaker}
use Rattle.std.specs.Fmt.{decimal}
use Rattle.capn_value.specs.Text.{line, named}
use Rattle.capn_show.proofs.LineTexts.{named-lined}
use Rattle.capn_show.specs.Outgoing.{outgoing}
use Rattle.capn_show.proofs.shared.Appended.{passed, otherwise, otherwise-broken, both, then-broken, broken-before}
use Rattle.capn_show.proofs.lines.named_line.Goals as goal

pub returns-clause-shown : goal.returns-clause-shown
returns-clause-shown g c =
    let old = outgoing g.W.Write.contents c.args.writer.now c.args.text.now.items in
    let after-indent = outgoing g.W.Write.contents c.indent.new.writer c.indent.new.text.items in
    let after-put = outgoing g.W.Write.contents c.put.new.writer c.put.new.text.items in
    let after-put-2 = outgoing g.W.Write.contents c.put-2.new.writer c.put-2.new.text.items in
    let new = outgoing g.W.Write.contents c.put_number.new.writer c.put_number.new.text.items in
    on_ok_weaker c.put_number.result (λ k. otherwise old new (replicate (2 * c.args.level) 32
    ++ (c.as_bytes.result.now ++ (32 ∷ [] ++ (decimal c.args.n ++ 10 ∷ []))))
    (line c.args.level (named c.args.name.now c.args.n)) (ap (λ (l : List ℕ). replicate (2 * c.args.level) 32
    ++ (l ++ (32 ∷ [] ++ (decimal c.args.n ++ 10 ∷ [])))) c.as_bytes.ensures.value ∙ named-lined c.args.level
    c.args.name.now c.args.n) (both old after-indent new (replicate (2 * c.args.level) 32)
    (c.as_bytes.result.now ++ (32 ∷ [] ++ (decimal c.args.n ++ 10 ∷ []))) c.in_ok-indent.ensures.shown (both
    after-indent after-put new (c.as_bytes.result.now) (32 ∷ [] ++ (decimal c.args.n ++ 10 ∷ []))
    c.in_ok-put.ensures.shown (both after-put after-put-2 new (32 ∷ []) (decimal c.args.n ++ 10 ∷ [])
    c.in_ok-put-2.ensures.shown k)))) c.put_number.ensures.shown

pub returns-clause-cut : goal.returns-clause-cut
returns-clause-cut g c =
    let old = outgoing g.W.Write.contents c.args.writer.now c.args.text.now.items in
    let after-indent = outgoing g.W.Write.contents c.indent.new.writer c.indent.new.text.items in
    let after-put = outgoing g.W.Write.contents c.put.new.writer c.put.new.text.items in
    let after-put-2 = outgoing g.W.Write.contents c.put-2.new.writer c.put-2.new.text.items in
    let new = outgoing g.W.Write.contents c.put_number.new.writer c.put_number.new.text.items in
    IfErr-weaker c.put_number.result _ _ (λ e k. otherwise-broken old new e (replicate (2 * c.args.level) 32
    ++ (c.as_bytes.result.now ++ (32 ∷ [] ++ (decimal c.args.n ++ 10 ∷ []))))
    (line c.args.level (named c.args.name.now c.args.n)) (ap (λ (l : List ℕ). replicate (2 * c.args.level) 32
    ++ (l ++ (32 ∷ [] ++ (decimal c.args.n ++ 10 ∷ [])))) c.as_bytes.ensures.value ∙ named-lined c.args.level
    c.args.name.now c.args.n) (then-broken old after-indent new e (replicate (2 * c.args.level) 32)
    (c.as_bytes.result.now ++ (32 ∷ [] ++ (decimal c.args.n ++ 10 ∷ []))) c.in_ok-indent.ensures.shown (then-broken
    after-indent after-put new e (c.as_bytes.result.now) (32 ∷ [] ++ (decimal c.args.n ++ 10 ∷ []))
    c.in_ok-put.ensures.shown (then-broken after-put after-put-2 new e (32 ∷ []) (decimal c.args.n ++ 10 ∷ [])
    c.in_ok-put-2.ensures.shown k)))) c.put_number.ensures.cut

pub returns-in_err-indent-clause-cut : goal.returns-in_err-indent-clause-cut
returns-in_err-indent-clause-cut g c =
    let old = outgoing g.W.Write.contents c.args.writer.now c.args.text.now.items in
    let after-indent = outgoing g.W.Write.contents c.indent.new.writer c.indent.new.text.items in
    passed c.from_residual.result c.in_err-indent.field-0.0 _ c.from_residual.ensures.1 (otherwise-broken old
    after-indent _ (replicate (2 * c.args.level) 32 ++ (c.args.name.now ++ (32 ∷ [] ++ (decimal c.args.n ++ 10 ∷ []))))
    (line c.args.level (named c.args.name.now c.args.n)) (named-lined c.args.level c.args.name.now c.args.n)
    (broken-before old after-indent _ (replicate (2 * c.args.level) 32)
    (c.args.name.now ++ (32 ∷ [] ++ (decimal c.args.n ++ 10 ∷ []))) c.in_err-indent.ensures.cut))

pub returns-in_err-put-clause-cut : goal.returns-in_err-put-clause-cut
returns-in_err-put-clause-cut g c =
    let old = outgoing g.W.Write.contents c.args.writer.now c.args.text.now.items in
    let after-indent = outgoing g.W.Write.contents c.indent.new.writer c.indent.new.text.items in
    let after-put = outgoing g.W.Write.contents c.put.new.writer c.put.new.text.items in
    passed c.from_residual-in_err-put.result c.in_err-put.field-0.0 _ c.from_residual-in_err-put.ensures.1
    (otherwise-broken old after-put _ (replicate (2 * c.args.level) 32
    ++ (c.as_bytes.result.now ++ (32 ∷ [] ++ (decimal c.args.n ++ 10 ∷ []))))
    (line c.args.level (named c.args.name.now c.args.n)) (ap (λ (l : List ℕ). replicate (2 * c.args.level) 32
    ++ (l ++ (32 ∷ [] ++ (decimal c.args.n ++ 10 ∷ [])))) c.as_bytes.ensures.value ∙ named-lined c.args.level
    c.args.name.now c.args.n) (then-broken old after-indent after-put _ (replicate (2 * c.args.level) 32)
    (c.as_bytes.result.now ++ (32 ∷ [] ++ (decimal c.args.n ++ 10 ∷ []))) c.in_ok-indent.ensures.shown (broken-before
    after-indent after-put _ (c.as_bytes.result.now) (32 ∷ [] ++ (decimal c.args.n ++ 10 ∷ []))
    c.in_err-put.ensures.cut)))

pub returns-in_err-put-2-clause-cut : goal.returns-in_err-put-2-clause-cut
returns-in_err-put-2-clause-cut g c =
    let old = outgoing g.W.Write.contents c.args.writer.now c.args.text.now.items in
    let after-indent = outgoing g.W.Write.contents c.indent.new.writer c.indent.new.text.items in
    let after-put = outgoing g.W.Write.contents c.put.new.writer c.put.new.text.items in
    let after-put-2 = outgoing g.W.Write.contents c.put-2.new.writer c.put-2.new.text.items in
    passed c.from_residual-in_err-put-2.result c.in_err-put-2.field-0.0 _ c.from_residual-in_err-put-2.ensures.1
    (otherwise-broken old after-put-2 _ (replicate (2 * c.args.level) 32
    ++ (c.as_bytes.result.now ++ (32 ∷ [] ++ (decimal c.args.n ++ 10 ∷ []))))
    (line c.args.level (named c.args.name.now c.args.n)) (ap (λ (l : List ℕ). replicate (2 * c.args.level) 32
    ++ (l ++ (32 ∷ [] ++ (decimal c.args.n ++ 10 ∷ [])))) c.as_bytes.ensures.value ∙ named-lined c.args.level
    c.args.name.now c.args.n) (then-broken old after-indent after-put-2 _ (replicate (2 * c.args.level) 32)
    (c.as_bytes.result.now ++ (32 ∷ [] ++ (decimal c.args.n ++ 10 ∷ []))) c.in_ok-indent.ensures.shown (then-broken
    after-indent after-put after-put-2 _ (c.as_bytes.result.now) (32 ∷ [] ++ (decimal c.args.n ++ 10 ∷ []))
    c.in_ok-put.ensures.shown (broken-before after-put after-put-2 _ (32 ∷ []) (decimal c.args.n ++ 10 ∷ [])
    c.in_err-put-2.ensures.cut))))
