use Rattle.std.proofs.Common.{List, ℕ, subst}
use Rattle.std.specs.Prelude.{OnOk, IfErr}
use Rattle.capn_marks.specs.Marked.{mark}
use Rattle.capn_show.specs.Outgoing.{Adds, BreaksOff, outgoing}
use Rattle.capn_marks.proofs.annotated.AnnotatedEmitter.put_mark.Goals as goal

pub returns-clause-shown : goal.returns-clause-shown
returns-clause-shown g c =
    subst (λ (w : List ℕ). OnOk c.put_mark.result
    (Adds (outgoing g.W.Write.contents c.args.writer.now c.args.text.now.items)
    (outgoing g.W.Write.contents c.put_mark.new.writer c.put_mark.new.text.items)
    (mark c.args.self.now.marks c.args.byte w))) c.as_slice.ensures.value c.put_mark.ensures.shown

pub returns-clause-cut : goal.returns-clause-cut
returns-clause-cut g c =
    subst (λ (w : List ℕ). IfErr c.put_mark.result (λ e.
    BreaksOff (outgoing g.W.Write.contents c.args.writer.now c.args.text.now.items)
    (outgoing g.W.Write.contents c.put_mark.new.writer c.put_mark.new.text.items) e
    (mark c.args.self.now.marks c.args.byte w))) c.as_slice.ensures.value c.put_mark.ensures.cut
