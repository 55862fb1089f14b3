use Rattle.std.proofs.Common.{ℕ, ap}
use Rattle.std.proofs.lemmas.Result.{on_ok_weaker, IfErr-weaker}
use Rattle.capn_marks.specs.Marked.{mark, byte_at, unmarked}
use Rattle.capn_marks.proofs.AnnotatedTexts.{agree, same}
use Rattle.capn_show.specs.Outgoing.{outgoing}
use Rattle.capn_show.proofs.shared.Appended.{passed, both, then-broken, broken-before, otherwise, otherwise-broken}
use Rattle.capn_marks.proofs.marked_part.mark_there.Goals as goal

pub returns-clause-shown : goal.returns-clause-shown
returns-clause-shown g c =
    let m = g.S.Space.message c.args.space.now in
    let a = c.args.annotated.now in
    on_ok_weaker c.show_found.result (λ k v h. both _ _ _ (mark a.marks (byte_at m a.marks c.args.part.at) a.path.items)
    (unmarked m a.marks 0 a.path.items c.args.part.found v) (otherwise _ _ _ _ (ap
    (λ (n : ℕ). mark a.marks n a.path.items) c.byte_of-byte.ensures.is) c.in_ok-put_mark.ensures.shown) (otherwise _ _ _
    _ (same a.marks m a.path.items a.path.items (agree a.marks.ways a.path.items) 0 c.args.part.found v) (k v h)))
    c.show_found.ensures.shown

pub returns-clause-cut : goal.returns-clause-cut
returns-clause-cut g c =
    let m = (g.S.Space.message c.args.space.now) in
    let a = c.args.annotated.now in
    let p = (outgoing g.W.Write.contents c.args.writer.now c.args.text.now.items) in
    let q = (outgoing g.W.Write.contents c.put_mark.new.writer c.put_mark.new.text.items) in
    let r = (outgoing g.W.Write.contents c.show_found.new.writer c.show_found.new.text.items) in
    IfErr-weaker c.show_found.result _ _
    (λ e k v h. then-broken p q r e (mark a.marks (byte_at m a.marks c.args.part.at) a.path.items)
    (unmarked m a.marks 0 a.path.items c.args.part.found v)
    (otherwise p q _ _ (ap (λ (n : ℕ). mark a.marks n a.path.items) c.byte_of-byte.ensures.is)
    c.in_ok-put_mark.ensures.shown) (otherwise-broken q r e _ _ (same a.marks m a.path.items a.path.items
    (agree a.marks.ways a.path.items) 0 c.args.part.found v) (k v h))) c.show_found.ensures.cut

pub returns-in_err-put_mark-clause-cut : goal.returns-in_err-put_mark-clause-cut
returns-in_err-put_mark-clause-cut g c =
    let m = (g.S.Space.message c.args.space.now) in
    let a = c.args.annotated.now in
    let p = (outgoing g.W.Write.contents c.args.writer.now c.args.text.now.items) in
    let q = (outgoing g.W.Write.contents c.put_mark.new.writer c.put_mark.new.text.items) in
    passed c.from_residual.result c.in_err-put_mark.field-0.0 _ c.from_residual.ensures.1
    (λ v h. broken-before p q _ (mark a.marks (byte_at m a.marks c.args.part.at) a.path.items)
    (unmarked m a.marks 0 a.path.items c.args.part.found v)
    (otherwise-broken p q _ _ _ (ap (λ (n : ℕ). mark a.marks n a.path.items) c.byte_of-byte.ensures.is)
    c.in_err-put_mark.ensures.cut))
