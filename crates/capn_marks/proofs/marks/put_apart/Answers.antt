use Rattle.std.proofs.Common.{[], ◌∷◌, ◌++◌}
use Rattle.std.specs.Fmt.{decimal}
use Rattle.capn_show.specs.Outgoing.{outgoing}
use Rattle.capn_show.proofs.shared.Sequels.{ok-then, err-then}
use Rattle.capn_show.proofs.shared.Appended.{passed, broken-before}
use Rattle.capn_marks.proofs.marks.put_apart.Goals as goal

pub returns-clause-shown : goal.returns-clause-shown
returns-clause-shown g c =
    ok-then _ _ _ (decimal c.args.byte ++ 9 ∷ []) (c.args.name.now ++ 9 ∷ []) c.in_ok-put_byte.ensures.shown
    c.put_named.result c.put_named.ensures.shown

pub returns-clause-cut : goal.returns-clause-cut
returns-clause-cut g c =
    err-then _ _ _ (decimal c.args.byte ++ 9 ∷ []) (c.args.name.now ++ 9 ∷ []) c.in_ok-put_byte.ensures.shown
    c.put_named.result c.put_named.ensures.cut

pub returns-in_err-put_byte-clause-cut : goal.returns-in_err-put_byte-clause-cut
returns-in_err-put_byte-clause-cut g c =
    passed c.from_residual.result c.in_err-put_byte.field-0.0 _ c.from_residual.ensures.1
    (broken-before (outgoing g.W.Write.contents c.args.writer.now c.args.text.now.items)
    (outgoing g.W.Write.contents c.put_byte.new.writer c.put_byte.new.text.items) _
    (decimal c.args.byte ++ 9 ∷ []) (c.args.name.now ++ 9 ∷ []) c.in_err-put_byte.ensures.cut)
