use Rattle.std.proofs.Common.{ℕ, ◌+◌, ◌++◌, length, ap, sym}
use Rattle.std.proofs.lemmas.Result.{on_ok_weaker, IfErr-weaker}
use Rattle.hex.specs.Hex.{encode_lower}
use Rattle.capn_show.specs.declared.piece.Piece.TheVariants as pieces
use Rattle.capn_show.specs.Emitted.{emitted_digits}
use Rattle.capn_show.specs.Outgoing.{outgoing}
use Rattle.capn_show.proofs.shared.Appended.{both, otherwise, otherwise-broken, then-broken, broken-before, passed}
use Rattle.capn_show.proofs.bytes.show_digits.Goals as goal

pub returns-clause-shown : goal.returns-clause-shown
returns-clause-shown g c =
    let rule = g.E.Emitter.rule c.args.emitter.now in
    let path = g.E.Emitter.path c.args.emitter.now in
    let lies = rule.lies (g.S.Space.message c.args.space.now) c.args.start in
    on_ok_weaker c.show_bytes.result (λ k xs h n. otherwise _ _ _ _ (ap (λ (j : ℕ). rule.piece c.args.level
    (pieces.Bytes j) ++ emitted_digits rule (c.args.level + 1) path lies (length xs) (encode_lower xs)) (sym n)) (both _
    _ _ (rule.piece c.args.level (pieces.Bytes c.args.count)) (emitted_digits rule (c.args.level + 1) path lies
    (length xs) (encode_lower xs)) c.in_ok-put_piece.ensures.shown (k xs h n))) c.show_bytes.ensures.shown

pub returns-clause-cut : goal.returns-clause-cut
returns-clause-cut g c =
    let rule = g.E.Emitter.rule c.args.emitter.now in
    let path = g.E.Emitter.path c.args.emitter.now in
    let lies = rule.lies (g.S.Space.message c.args.space.now) c.args.start in
    let p = (outgoing g.W.Write.contents c.args.writer.now c.args.text.now.items) in
    let q = (outgoing g.W.Write.contents c.put_piece.new.writer c.put_piece.new.text.items) in
    let r = (outgoing g.W.Write.contents c.show_bytes.new.writer c.show_bytes.new.text.items) in
    IfErr-weaker c.show_bytes.result _ _ (λ e k xs h n. otherwise-broken p r e _ _
    (ap (λ (j : ℕ). rule.piece c.args.level (pieces.Bytes j) ++ emitted_digits rule
    (c.args.level + 1) path lies (length xs) (encode_lower xs)) (sym n))
    (then-broken p q r e (rule.piece c.args.level (pieces.Bytes c.args.count))
    (emitted_digits rule (c.args.level + 1) path lies (length xs) (encode_lower xs))
    c.in_ok-put_piece.ensures.shown (k xs h n))) c.show_bytes.ensures.cut

pub returns-in_err-put_piece-clause-cut : goal.returns-in_err-put_piece-clause-cut
returns-in_err-put_piece-clause-cut g c =
    let rule = g.E.Emitter.rule c.args.emitter.now in
    let path = g.E.Emitter.path c.args.emitter.now in
    let lies = rule.lies (g.S.Space.message c.args.space.now) c.args.start in
    passed c.from_residual.result c.in_err-put_piece.field-0.0 _ c.from_residual.ensures.1
    (λ xs h n. let p = (outgoing g.W.Write.contents c.args.writer.now c.args.text.now.items) in
    let q = (outgoing g.W.Write.contents c.put_piece.new.writer c.put_piece.new.text.items) in
    otherwise-broken p q _ _ _ (ap (λ (j : ℕ). rule.piece c.args.level (pieces.Bytes j) ++ emitted_digits rule
    (c.args.level + 1) path lies (length xs) (encode_lower xs)) (sym n))
    (broken-before p q _ (rule.piece c.args.level (pieces.Bytes c.args.count))
    (emitted_digits rule (c.args.level + 1) path lies (length xs) (encode_lower xs)) c.in_err-put_piece.ensures.cut))
