use Rattle.std.proofs.Common.{Bool, subst, sym}
use Rattle.std.specs.Prelude.{OnOk, IfErr}
use Rattle.capn_marks.specs.Marked.{offset_mark}
use Rattle.capn_show.specs.Outgoing.{Adds, BreaksOff, outgoing}
use Rattle.capn_show.proofs.shared.Appended.{same}
use Rattle.capn_marks.proofs.marks.put_offset.Goals as goal

pub returns-then-offsets-clause-shown : goal.returns-then-offsets-clause-shown
returns-then-offsets-clause-shown g c =
    subst (λ (b : Bool). OnOk c.put_byte.result (Adds
    (outgoing g.W.Write.contents c.args.writer.now c.args.text.now.items)
    (outgoing g.W.Write.contents c.put_byte.new.writer c.put_byte.new.text.items) (offset_mark b c.args.byte)))
    (sym c.if-offsets.true) c.put_byte.ensures.shown

pub returns-then-offsets-clause-cut : goal.returns-then-offsets-clause-cut
returns-then-offsets-clause-cut g c =
    subst (λ (b : Bool). IfErr c.put_byte.result (λ e. BreaksOff
    (outgoing g.W.Write.contents c.args.writer.now c.args.text.now.items)
    (outgoing g.W.Write.contents c.put_byte.new.writer c.put_byte.new.text.items) e (offset_mark b c.args.byte)))
    (sym c.if-offsets.true) c.put_byte.ensures.cut

pub returns-else-offsets-clause-shown : goal.returns-else-offsets-clause-shown
returns-else-offsets-clause-shown g c =
    let p = (outgoing g.W.Write.contents c.args.writer.now c.args.text.now.items) in
    subst (λ (b : Bool). Adds p p (offset_mark b c.args.byte)) (sym c.if-offsets.false) (same p)
