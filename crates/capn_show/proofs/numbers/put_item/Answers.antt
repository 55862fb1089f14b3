use Rattle.capn_show.specs.Outgoing.{outgoing}
use Rattle.capn_show.proofs.shared.Sequels.{ok-then, err-then}
use Rattle.capn_show.proofs.shared.Appended.{passed, broken-before}
use Rattle.capn_show.proofs.numbers.put_item.Goals as goal

pub returns-clause-shown : goal.returns-clause-shown
returns-clause-shown g c =
    let rule = g.E.Emitter.rule c.args.emitter.now in
    let path = g.E.Emitter.path c.args.emitter.now in
    ok-then _ _ _ (rule.mark c.args.number c.args.byte path) (rule.piece c.args.level c.args.piece)
    c.in_ok-put_mark.ensures.shown c.put_piece.result c.put_piece.ensures.shown

pub returns-clause-cut : goal.returns-clause-cut
returns-clause-cut g c =
    let rule = g.E.Emitter.rule c.args.emitter.now in
    let path = g.E.Emitter.path c.args.emitter.now in
    err-then _ _ _ (rule.mark c.args.number c.args.byte path) (rule.piece c.args.level c.args.piece)
    c.in_ok-put_mark.ensures.shown c.put_piece.result c.put_piece.ensures.cut

pub returns-in_err-put_mark-clause-cut : goal.returns-in_err-put_mark-clause-cut
returns-in_err-put_mark-clause-cut g c =
    let rule = g.E.Emitter.rule c.args.emitter.now in
    let path = g.E.Emitter.path c.args.emitter.now in
    passed c.from_residual.result c.in_err-put_mark.field-0.0 _ c.from_residual.ensures.1
    (broken-before (outgoing g.W.Write.contents c.args.writer.now c.args.text.now.items)
    (outgoing g.W.Write.contents c.put_mark.new.writer c.put_mark.new.text.items) _
    (rule.mark c.args.number c.args.byte path) (rule.piece c.args.level c.args.piece) c.in_err-put_mark.ensures.cut)
