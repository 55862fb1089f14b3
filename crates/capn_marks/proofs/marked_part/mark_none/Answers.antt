use Rattle.std.proofs.Common.{[], ◌∷◌, ◌++◌, codes, if◌then◌else◌}
use Rattle.capn_value.specs.Text.{line}
use Rattle.capn_show.specs.Outgoing.{outgoing}
use Rattle.capn_show.proofs.shared.Sequels.{ok-then, err-then}
use Rattle.capn_show.proofs.shared.Appended.{passed, then-broken, broken-before}
use Rattle.capn_marks.proofs.marked_part.mark_none.Goals as goal

pub returns-clause-shown : goal.returns-clause-shown
returns-clause-shown g c =
    ok-then _ _ _ (if c.args.marks.now.offsets then 9 ∷ [] else []) ((if c.args.marks.now.ways then 9 ∷ [] else [])
    ++ (line 0 (codes "none"))) c.in_ok-put_tab.ensures.shown c.plain_line.result (ok-then _ _ _
    (if c.args.marks.now.ways then 9 ∷ [] else []) (line 0 (codes "none")) c.in_ok-put_tab-2.ensures.shown
    c.plain_line.result c.plain_line.ensures.shown)

pub returns-clause-cut : goal.returns-clause-cut
returns-clause-cut g c =
    err-then _ _ _ (if c.args.marks.now.offsets then 9 ∷ [] else []) ((if c.args.marks.now.ways then 9 ∷ [] else [])
    ++ (line 0 (codes "none"))) c.in_ok-put_tab.ensures.shown c.plain_line.result (err-then _ _ _
    (if c.args.marks.now.ways then 9 ∷ [] else []) (line 0 (codes "none")) c.in_ok-put_tab-2.ensures.shown
    c.plain_line.result c.plain_line.ensures.cut)

pub returns-in_err-put_tab-clause-cut : goal.returns-in_err-put_tab-clause-cut
returns-in_err-put_tab-clause-cut g c =
    let p = (outgoing g.W.Write.contents c.args.writer.now c.args.text.now.items) in
    let q = (outgoing g.W.Write.contents c.put_tab.new.writer c.put_tab.new.text.items) in
    passed c.from_residual.result c.in_err-put_tab.field-0.0 _ c.from_residual.ensures.1
    (broken-before p q _ (if c.args.marks.now.offsets then 9 ∷ [] else []) ((if c.args.marks.now.ways then 9 ∷ [] else
    []) ++ (line 0 (codes "none"))) c.in_err-put_tab.ensures.cut)

pub returns-in_err-put_tab-2-clause-cut : goal.returns-in_err-put_tab-2-clause-cut
returns-in_err-put_tab-2-clause-cut g c =
    let p = (outgoing g.W.Write.contents c.args.writer.now c.args.text.now.items) in
    let q = (outgoing g.W.Write.contents c.put_tab.new.writer c.put_tab.new.text.items) in
    let r = (outgoing g.W.Write.contents c.put_tab-2.new.writer c.put_tab-2.new.text.items) in
    passed c.from_residual-in_err-put_tab-2.result c.in_err-put_tab-2.field-0.0 _
    c.from_residual-in_err-put_tab-2.ensures.1
    (then-broken p q r _ (if c.args.marks.now.offsets then 9 ∷ [] else []) ((if c.args.marks.now.ways then 9 ∷ [] else
    []) ++ (line 0 (codes "none"))) c.in_ok-put_tab.ensures.shown
    (broken-before q r _ (if c.args.marks.now.ways then 9 ∷ [] else []) (line 0
    (codes "none")) c.in_err-put_tab-2.ensures.cut))
