use Rattle.std.proofs.Common.{subst, sym}
use Rattle.std.specs.Prelude.{IfErr, OnOk}
use Rattle.capn_show.specs.Outgoing.{Adds, BreaksOff, outgoing}
use Rattle.capn_show.specs.declared.piece.Piece.{Piece}
use Rattle.capn_show.specs.inner.JsonRule.{json_piece}
use Rattle.capn_show.proofs.json.put_json_piece.Goals as goal

pub returns-in-Cap-clause-shown : goal.returns-in-Cap-clause-shown
returns-in-Cap-clause-shown g c =
    let p = outgoing g.W.Write.contents c.args.writer.now c.args.text.now.items in
    let q = outgoing g.W.Write.contents c.put_member.new.writer c.put_member.new.text.items in
    subst (λ (x : Piece). OnOk c.put_member.result (Adds p q (json_piece x))) (sym c.in-Cap.is)
    c.put_member.ensures.shown

pub returns-in-Cap-clause-cut : goal.returns-in-Cap-clause-cut
returns-in-Cap-clause-cut g c =
    let p = outgoing g.W.Write.contents c.args.writer.now c.args.text.now.items in
    let q = outgoing g.W.Write.contents c.put_member.new.writer c.put_member.new.text.items in
    subst (λ (x : Piece). IfErr c.put_member.result (λ e. BreaksOff p q e (json_piece x))) (sym c.in-Cap.is)
    c.put_member.ensures.cut

pub returns-in-EndWords-clause-shown : goal.returns-in-EndWords-clause-shown
returns-in-EndWords-clause-shown g c =
    let p = outgoing g.W.Write.contents c.args.writer.now c.args.text.now.items in
    let q = outgoing g.W.Write.contents c.put-in-EndWords.new.writer c.put-in-EndWords.new.text.items in
    subst (λ (x : Piece). OnOk c.put-in-EndWords.result (Adds p q (json_piece x))) (sym c.in-EndWords.is)
    c.put-in-EndWords.ensures.shown

pub returns-in-EndWords-clause-cut : goal.returns-in-EndWords-clause-cut
returns-in-EndWords-clause-cut g c =
    let p = outgoing g.W.Write.contents c.args.writer.now c.args.text.now.items in
    let q = outgoing g.W.Write.contents c.put-in-EndWords.new.writer c.put-in-EndWords.new.text.items in
    subst (λ (x : Piece). IfErr c.put-in-EndWords.result (λ e. BreaksOff p q e (json_piece x))) (sym c.in-EndWords.is)
    c.put-in-EndWords.ensures.cut

pub returns-in-Links-clause-cut : goal.returns-in-Links-clause-cut
returns-in-Links-clause-cut g c =
    let p = outgoing g.W.Write.contents c.args.writer.now c.args.text.now.items in
    let q = outgoing g.W.Write.contents c.put-in-Links.new.writer c.put-in-Links.new.text.items in
    subst (λ (x : Piece). IfErr c.put-in-Links.result (λ e. BreaksOff p q e (json_piece x))) (sym c.in-Links.is)
    c.put-in-Links.ensures.cut
