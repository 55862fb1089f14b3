use Rattle.std.proofs.Common.{Bool, [], ◌∷◌, subst, sym, if◌then◌else◌}
use Rattle.std.specs.Prelude.{OnOk, IfErr}
use Rattle.capn_show.specs.Outgoing.{Adds, BreaksOff, outgoing}
use Rattle.capn_show.proofs.shared.Appended.{same}
use Rattle.capn_marks.proofs.marked_part.put_tab.Goals as goal

pub returns-then-marked-clause-shown : goal.returns-then-marked-clause-shown
returns-then-marked-clause-shown g c =
    subst (λ (b : Bool). OnOk c.put.result (Adds (outgoing g.W.Write.contents c.args.writer.now c.args.text.now.items)
    (outgoing g.W.Write.contents c.put.new.writer c.put.new.text.items) (if b then 9 ∷ [] else [])))
    (sym c.if-marked.true) c.put.ensures.shown

pub returns-then-marked-clause-cut : goal.returns-then-marked-clause-cut
returns-then-marked-clause-cut g c =
    subst (λ (b : Bool). IfErr c.put.result (λ e. BreaksOff
    (outgoing g.W.Write.contents c.args.writer.now c.args.text.now.items)
    (outgoing g.W.Write.contents c.put.new.writer c.put.new.text.items) e (if b then 9 ∷ [] else [])))
    (sym c.if-marked.true) c.put.ensures.cut

pub returns-else-marked-clause-shown : goal.returns-else-marked-clause-shown
returns-else-marked-clause-shown g c =
    let p = (outgoing g.W.Write.contents c.args.writer.now c.args.text.now.items) in
    subst (λ (b : Bool). Adds p p (if b then 9 ∷ [] else [])) (sym c.if-marked.false) (same p)
